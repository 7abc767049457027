use Rattle.std.proofs.Common.{◌≡◌, ℕ, ◌+◌, ◌*◌, List, arith, sym, ap, ◌∙◌}
use Rattle.arrow_flatbuf.specs.Layout.{up}
use Rattle.arrow_flatbuf.specs.Nodes.{Nodes, after, after_all, after_cells, count_nodes, offset, tables}
use Rattle.arrow_flatbuf.proofs.Laid.{ahead_all}
use Rattle.arrow_types.specs.Field.{count}
use Rattle.arrow_types.specs.Notes.{KeyValue, pairs_view}
use Rattle.arrow_types.specs.View.{field_notes, field_view}
use Rattle.arrow_types.proofs.Fields.{fewer_below}
use Rattle.arrow_meta_writer.specs.Capped.{capped}
use Rattle.arrow_meta_writer.specs.Layouts.{field_nodes, metadata_cells}
use Rattle.arrow_meta_writer.proofs.Capping.{cap_step, caps}
use Rattle.arrow_meta_writer.proofs.FieldParts.{count_all, field_pairs}
use Rattle.arrow_meta_writer.proofs.FieldRows.{node_of, nodes_from, nodes_more, nodes_of}
use Rattle.arrow_meta_writer.proofs.Noting.{Held, metadata_grows}
use Rattle.arrow_meta_writer.proofs.sizes.+sizes.Goals as goal

pub loop-field-init : goal.loop-field-init
loop-field-init t c =
    let nodes = nodes_of c.args.fields.now in
    let first = up 4 c.args.place + 4 in
    let counted : c.offsets_end-end.result ≡ capped (first + 4 * count_nodes nodes) =
    c.offsets_end-end.ensures.end ∙ ap (λ (n : ℕ). capped (first + 4 * n)) (sym (count_all c.args.fields.now)) in
    record {
      same = ap (λ (n : ℕ). capped (after_all n nodes)) counted ∙ cap_step (λ q. after_all q nodes) (λ q. ahead_all q nodes) (first + 4 * count_nodes nodes);
      near = c.offsets_end-end.ensures.near;
    }

pub fields_end-below-requires : goal.fields_end-below-requires
fields_end-below-requires t c =
    let f = c.field-item.result in
    let fewer = fewer_below c.args.fields.now c.loop-field.field-index f c.loop-field-test.true c.field-item.is in
    (omega (arith, c.decreases, fewer, ap count c.children.ensures.fields), c.field_head_end-head.ensures.near)

pub loop-field-preserved : goal.loop-field-preserved
loop-field-preserved t c =
    let f = c.field-item.result in
    let ps = (field_notes f).pairs in
    let children = field_nodes (field_view f).children (field_notes f).below in
    let rest = nodes_from c.args.fields.now (c.loop-field.field-index + 1) in
    let node = node_of f in
    let step = nodes_more c.args.fields.now c.loop-field.field-index f c.loop-field-test.true c.field-item.is in
    let head = c.field_head_end-head.result in
    let below : c.fields_end-below.result ≡ capped (after head (tables children)) =
    c.fields_end-below.ensures.end ∙ (λ i. capped (after head (tables (field_nodes (c.children.ensures.fields i) (c.children.ensures.notes i))))) in
    let wrote : c.metadata_end-end.result ≡ capped (after_cells c.fields_end-below.result (metadata_cells ps)) =
    c.metadata_end-end.ensures.end
    ∙ ap (λ (xs : List Held). capped (after_cells c.fields_end-below.result (metadata_cells (pairs_view xs)))) c.deref.ensures.value
    ∙ ap (λ (xs : List KeyValue). capped (after_cells c.fields_end-below.result (metadata_cells xs))) (field_pairs f) in
    let whole : c.metadata_end-end.result ≡ capped (after_cells head (offset (tables children) (metadata_cells ps))) =
    caps (λ q. after_cells q (metadata_cells ps)) (λ q. metadata_grows q ps) c.fields_end-below.result c.metadata_end-end.result (after head (tables children)) below wrote in
    let ends : c.metadata_end-end.result ≡ capped (after c.loop-field.end node) = whole ∙ c.field_head_end-head.ensures.end children in
    record {
      same = ap (λ (n : ℕ). capped (after_all n rest)) ends
          ∙ cap_step (λ q. after_all q rest) (λ q. ahead_all q rest) (after c.loop-field.end node)
          ∙ ap (λ (ns : Nodes). capped (after_all c.loop-field.end ns)) (sym step)
          ∙ c.loop-field.invariant.same;
      near = c.metadata_end-end.ensures.near;
    }
