use Rattle.std.proofs.Common.{◌≡◌, List, arith, sym, ap, ◌∙◌}
use Rattle.arrow_flatbuf.specs.Nodes.{after, after_cells, count, tables}
use Rattle.arrow_flatbuf.proofs.Laid.{reaches}
use Rattle.arrow_types.specs.Notes.{KeyValue}
use Rattle.arrow_meta_writer.specs.Capped.{capped}
use Rattle.arrow_meta_writer.specs.Layouts.{field_nodes, metadata_cells}
use Rattle.arrow_meta_writer.proofs.Capping.{caps}
use Rattle.arrow_meta_writer.proofs.Noting.{metadata_grows}
use Rattle.arrow_meta_writer.proofs.sizes.schema_end.Goals as goal

pub returns-clause-end : goal.returns-clause-end
returns-clause-end c =
    let s = c.args.schema.now in
    let fields = tables (field_nodes s.fields s.notes) in
    let noted : count (metadata_cells s.pairs) ≡ c.metadata_fields.result =
    sym (c.metadata_fields.ensures.count ∙ ap (λ (xs : List KeyValue). count (metadata_cells xs)) c.metadata-pairs.ensures.same) in
    let at_table = c.schema_table_end-table.ensures.end s noted in
    let table = c.schema_table_end-table.result in
    let wrote_fields : c.fields_end.result ≡ capped (after table fields) =
    c.fields_end.ensures.end ∙ (λ i. capped (after table (tables (field_nodes (c.fields.ensures.same i) (c.fields.ensures.notes i))))) in
    let at_fields = caps (λ q. after q fields) (λ q. omega (arith, reaches q fields)) table c.fields_end.result _ at_table wrote_fields in
    let wrote : c.metadata_end.result ≡ capped (after_cells c.fields_end.result (metadata_cells s.pairs)) =
    c.metadata_end.ensures.end ∙ ap (λ (xs : List KeyValue). capped (after_cells c.fields_end.result (metadata_cells xs))) c.metadata-pairs.ensures.same in
    caps (λ q. after_cells q (metadata_cells s.pairs)) (λ q. metadata_grows q s.pairs) c.fields_end.result c.metadata_end.result _ at_fields wrote
