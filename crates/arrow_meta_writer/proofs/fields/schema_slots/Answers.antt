use Rattle.std.proofs.Common.{◌≡◌, ℕ, List, [], ◌∷◌, take, refl, arith, sym, ap, ◌∙◌}
use Rattle.arrow_flatbuf.specs.declared.layout.FieldValue.TheVariants.{Scalar, Target}
use Rattle.arrow_flatbuf.specs.declared.layout.Width.TheVariants.{Two}
use Rattle.arrow_flatbuf.specs.Layout.{up}
use Rattle.arrow_flatbuf.specs.Nodes.{cells_place, count, after, slots, table, tables}
use Rattle.arrow_flatbuf.proofs.Laid.{reaches}
use Rattle.arrow_types.specs.Notes.{KeyValue}
use Rattle.arrow_meta_writer.specs.Capped.{capped}
use Rattle.arrow_meta_writer.specs.Layouts.{field_nodes, metadata_cells, schema_cells}
use Rattle.arrow_meta_writer.proofs.Exact.{exact_table, exact_after}
use Rattle.arrow_meta_writer.proofs.Noting.{metadata_slots}
use Rattle.arrow_meta_writer.proofs.fields.schema_slots.Goals as goal

pub schema_table_end-fields-requires-clause-low : goal.schema_table_end-fields-requires-clause-low
schema_table_end-fields-requires-clause-low c = omega (arith, reaches c.args.place (table (schema_cells c.args.schema.now)), c.requires.room)

pub returns : goal.returns
returns c =
    let p = c.args.place in
    let s = c.args.schema.now in
    let ps = s.pairs in
    let children = tables (field_nodes s.fields s.notes) in
    let cs = schema_cells s in
    let q = cells_place p cs in
    let m = after q children in
    let k = count (metadata_cells ps) in
    let noted : k ≡ c.metadata_fields.result =
    sym (c.metadata_fields.ensures.count ∙ ap (λ (xs : List KeyValue). count (metadata_cells xs)) c.metadata.ensures.same) in
    let table_end = c.schema_table_end-fields.result in
    let at_table = exact_table table_end p p cs (c.schema_table_end-fields.ensures.end s noted) refl c.requires.room in
    let wrote : c.fields_end-metadata.result ≡ capped (after table_end children) =
    c.fields_end-metadata.ensures.end ∙ (λ i. capped (after table_end (tables (field_nodes (c.fields.ensures.same i) (c.fields.ensures.notes i))))) in
    let at_metadata = exact_after table_end c.fields_end-metadata.result q children (metadata_cells ps) wrote at_table c.requires.room in
    let at_1 : c.aligned.result ≡ up 4 q = c.aligned.ensures.value ∙ ap (up 4) at_table in
    let at_2 : c.aligned-2.result ≡ up 4 m = c.aligned-2.ensures.value ∙ ap (up 4) at_metadata in
    let tail : take k (Target c.aligned-2.result ∷ []) ≡ slots m (metadata_cells ps) =
    ap (λ (x : ℕ). take k (Target x ∷ [])) at_2 ∙ metadata_slots m ps in
    record { slots = ap (take (count cs)) c.schema_table.ensures ∙ (λ i. Scalar Two 0 ∷ Target (at_1 i) ∷ tail i) }
