use Rattle.std.proofs.Common.{◌≡◌, ◌+◌, ◌*◌, ℕ, List, length, arith, sym, ap, subst, ◌∙◌}
use Rattle.arrow_flatbuf.specs.Layout.{table_place, up}
use Rattle.arrow_flatbuf.specs.Nodes.{after, after_all, after_cells, more, offset, tables, start}
use Rattle.arrow_flatbuf.proofs.Laid.{ahead_all, reaches}
use Rattle.arrow_flatbuf.proofs.Rows.{HeadsLeft, heads_first, heads_last, head_step}
use Rattle.arrow_types.specs.Notes.{KeyValue, pairs_view}
use Rattle.arrow_types.specs.View.{field_notes, field_view}
use Rattle.arrow_meta_writer.specs.Capped.{capped}
use Rattle.arrow_meta_writer.specs.Layouts.{field_nodes, metadata_cells}
use Rattle.arrow_meta_writer.proofs.Capping.{caps}
use Rattle.arrow_meta_writer.proofs.Exact.{exact}
use Rattle.arrow_meta_writer.proofs.FieldParts.{count_all, field_pairs}
use Rattle.arrow_meta_writer.proofs.FieldRows.{node_of, nodes_from, nodes_more, nodes_none, nodes_of}
use Rattle.arrow_meta_writer.proofs.Noting.{Held, metadata_grows}
use Rattle.arrow_meta_writer.proofs.fields.write_offsets.Goals as goal

pub offsets_end-end-requires : goal.offsets_end-end-requires
offsets_end-end-requires c = omega (arith, c.place.ensures, reaches (length c.args.writer.now) (tables (nodes_of c.args.fields.now)), c.requires.room)

pub loop-field-init : goal.loop-field-init
loop-field-init c =
    let p = length c.args.writer.now in
    let fs = c.args.fields.now in
    let whole = nodes_of fs in
    let end = c.offsets_end-end.ensures.end ∙ ap (λ (n : ℕ). capped (up 4 n + 4 + 4 * length fs)) c.place.ensures in
    let first = exact c.offsets_end-end.result (up 4 p + 4 + 4 * length fs) end
    (omega (arith, count_all fs, ahead_all (up 4 p + 4 + 4 * length fs) whole, ap (λ (n : ℕ). after_all (up 4 p + 4 + 4 * n) whole) (count_all fs), c.requires.room)) in
    heads_first c.args.writer.now c.count.new.self (length fs) c.offsets_end-end.result whole (sym (count_all fs)) c.in_ok-count.ensures.ok first

pub table_place-requires-clause-place : goal.table_place-requires-clause-place
table_place-requires-clause-place c =
    omega (arith, c.loop-field.invariant.ends, ahead_all c.loop-field.end (nodes_from c.args.fields.now c.loop-field.field-index), c.requires.room)

pub field_head_end-head-requires : goal.field_head_end-head-requires
field_head_end-head-requires c =
    omega (arith, c.loop-field.invariant.ends, ahead_all c.loop-field.end (nodes_from c.args.fields.now c.loop-field.field-index), c.requires.room)

pub loop-field-preserved : goal.loop-field-preserved
loop-field-preserved c =
    let fs = c.args.fields.now in
    let f = c.field-item.result in
    let ps = (field_notes f).pairs in
    let children = field_nodes (field_view f).children (field_notes f).below in
    let i = c.loop-field.field-index in
    let now = c.loop-field.writer in
    let end = c.loop-field.end in
    let head = c.field_head_end-head.result in
    let node = node_of f in
    let rest = nodes_from fs (i + 1) in
    let whole = nodes_of fs in
    let left : HeadsLeft c.args.writer.now now end (more node rest) whole =
    subst (λ ns. HeadsLeft c.args.writer.now now end ns whole) (nodes_more fs i f c.loop-field-test.true c.field-item.is) c.loop-field.invariant in
    let below : c.fields_end-below.result ≡ capped (after head (tables children)) =
    c.fields_end-below.ensures.end ∙ (λ j. capped (after head (tables (field_nodes (c.children.ensures.fields j) (c.children.ensures.notes j))))) in
    let wrote : c.metadata_end-end.result ≡ capped (after_cells c.fields_end-below.result (metadata_cells ps)) =
    c.metadata_end-end.ensures.end
    ∙ ap (λ (xs : List Held). capped (after_cells c.fields_end-below.result (metadata_cells (pairs_view xs)))) c.deref.ensures.value
    ∙ ap (λ (xs : List KeyValue). capped (after_cells c.fields_end-below.result (metadata_cells xs))) (field_pairs f) in
    let ended : c.metadata_end-end.result ≡ capped (after_cells head (offset (tables children) (metadata_cells ps))) =
    caps (λ q. after_cells q (metadata_cells ps)) (λ q. metadata_grows q ps) c.fields_end-below.result c.metadata_end-end.result (after head (tables children)) below wrote in
    let ends : c.metadata_end-end.result ≡ capped (after end node) = ended ∙ c.field_head_end-head.ensures.end children in
    let new = exact c.metadata_end-end.result (after end node) ends (omega (arith, left.ends, ahead_all (after end node) rest, c.requires.room)) in
    let target : c.table_place.result ≡ start end node = c.table_place.ensures.value ∙ ap (table_place end) c.field_fields.ensures.count in
    head_step c.args.writer.now now c.offset.new.self end c.metadata_end-end.result c.table_place.result node rest whole left target c.in_ok-offset.ensures.ok new

pub returns : goal.returns
returns c = record {
  bytes =
      heads_last c.args.writer.now c.loop-field.writer c.loop-field.end (nodes_of c.args.fields.now)
      (subst (λ ns. HeadsLeft c.args.writer.now c.loop-field.writer c.loop-field.end ns (nodes_of c.args.fields.now)) (nodes_none c.args.fields.now c.loop-field.field-index c.loop-field-test.false) c.loop-field.invariant);
}
