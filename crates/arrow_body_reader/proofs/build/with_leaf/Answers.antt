use Rattle.std.proofs.Common.{rules, ◌≡◌, [], drop, ap, sym, ◌∙◌, subst}
use Rattle.arrow_types.specs.View.{field_view}
use Rattle.arrow_layout.specs.Form.{IsLeaf, form_of, node_form}
use Rattle.arrow_layout.specs.Layout.{IsLaid, IsText}
use Rattle.arrow_layout.specs.Shared.{NodeType, node_type}
use Rattle.arrow_data.proofs.NodeParts.{leaf_laid}
use Rattle.arrow_body_reader.specs.Sound.{lengths_of, own_bytes, slots_at}
use Rattle.arrow_body_reader.specs.Taken.{below}
use Rattle.arrow_body_reader.proofs.build.with_leaf.Goals as goal

pub from_leaf_parts-requires-clause-own : goal.from_leaf_parts-requires-clause-own
from_leaf_parts-requires-clause-own c =
    let h = (field_view c.args.place.field.now).head in
    let ch = (field_view c.args.place.field.now).children in
    let shared : c.unwrap-shared.result.now ≡ node_type h ch = search rules in
    ap (λ (t : NodeType). t.encoding) shared ∙ c.requires.leaf.own

pub from_leaf_parts-requires-clause-leaf : goal.from_leaf_parts-requires-clause-leaf
from_leaf_parts-requires-clause-leaf c =
    let h = (field_view c.args.place.field.now).head in
    let formed : c.args.place.form ≡ form_of h.tag = c.args.place.formed ∙ ap (node_form h.tag) c.requires.leaf.own in
    subst IsLeaf (sym formed) c.requires.leaf.leaf

pub from_leaf_parts-requires-clause-layout : goal.from_leaf_parts-requires-clause-layout
from_leaf_parts-requires-clause-layout c =
    let h = (field_view c.args.place.field.now).head in
    let ch = (field_view c.args.place.field.now).children in
    let ns = c.args.place.left.nodes.now in
    let b = own_bytes c.args.place.source.body.now h c.args.place.left.buffers.now in
    let counts = lengths_of (below h.encoding ch) (drop 1 ns) in
    let shared : c.unwrap-shared.result.now ≡ node_type h ch = search rules in
    let laid = leaf_laid (form_of h.tag) (slots_at ns) b counts [] c.requires.leaf.leaf (subst (λ e. IsLaid h.tag e (slots_at ns) b counts) c.requires.leaf.own c.requires.laid.laid) in
    rw (shared, c.requires.len, c.requires.same, c.args.place.counted, c.requires.lies.same) laid

pub from_leaf_parts-requires-clause-text : goal.from_leaf_parts-requires-clause-text
from_leaf_parts-requires-clause-text c =
    let h = (field_view c.args.place.field.now).head in
    let ch = (field_view c.args.place.field.now).children in
    let ns = c.args.place.left.nodes.now in
    let b = own_bytes c.args.place.source.body.now h c.args.place.left.buffers.now in
    let shared : c.unwrap-shared.result.now ≡ node_type h ch = search rules in
    let texts = subst (λ e. IsText h.tag e (slots_at ns) b) c.requires.leaf.own c.requires.text in
    rw (shared, c.requires.len, c.requires.same, c.args.place.counted, c.requires.lies.same) texts
