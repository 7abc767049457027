use Rattle.std.proofs.Common.{rules, ◌≡◌, drop, ap, ◌∙◌}
use Rattle.arrow_types.specs.View.{field_view}
use Rattle.arrow_data.specs.Column.{counts_of}
use Rattle.arrow_layout.specs.Shared.{node_type}
use Rattle.arrow_body_reader.specs.Taken.{below, own_buffers}
use Rattle.arrow_body_reader.proofs.Columns.{are_children, columns_long, columns_typed}
use Rattle.arrow_body_reader.proofs.build.with_array.Goals as goal

pub from_shared_parts-requires-clause-children : goal.from_shared_parts-requires-clause-children
from_shared_parts-requires-clause-children c =
    let h = (field_view c.args.place.field.now).head in
    let ch = (field_view c.args.place.field.now).children in
    let ns = c.args.place.left.nodes.now in
    let bs = c.args.place.left.buffers.now in
    let typed = columns_typed c.args.place.source.body.now c.args.place.source.dictionaries.entries.now (below h.encoding ch) (drop 1 ns) (drop (own_buffers h) bs) in
    let shared : c.unwrap-shared.result.now ≡ node_type h ch = search rules in
    rw (shared, c.requires.children) (are_children (record { tag = h.tag; children = ch }) h.encoding _ typed c.requires.fit.flat)

pub from_shared_parts-requires-clause-layout : goal.from_shared_parts-requires-clause-layout
from_shared_parts-requires-clause-layout c =
    let h = (field_view c.args.place.field.now).head in
    let ch = (field_view c.args.place.field.now).children in
    let ns = c.args.place.left.nodes.now in
    let bs = c.args.place.left.buffers.now in
    let long = columns_long c.args.place.source.body.now c.args.place.source.dictionaries.entries.now (below h.encoding ch) (drop 1 ns) (drop (own_buffers h) bs) in
    let shared : c.unwrap-shared.result.now ≡ node_type h ch = search rules in
    rw (shared, c.requires.len, c.requires.same, c.args.place.counted, c.requires.lies.same, ap counts_of c.requires.children ∙ long) c.requires.laid.laid
