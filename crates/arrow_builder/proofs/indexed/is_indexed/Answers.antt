use Rattle.std.proofs.Common.{◌≡◌, ◌↔◌, ◌≤◌, length, take, Some, sym, ◌∙◌, subst, arith}
use Rattle.std.proofs.lemmas.Grind.{common_steps}
use Rattle.arrow_types.specs.View.{field_view}
use Rattle.arrow_layout.specs.Form.{int_width}
use Rattle.arrow_layout.specs.Slots.{AreIndices}
use Rattle.arrow_data.specs.Listed.{values_by}
use Rattle.arrow_builder.specs.Built.{Built}
use Rattle.arrow_builder.specs.Finished.{IsIndexed}
use Rattle.arrow_builder.proofs.Arrays.{field_encoding}
use Rattle.arrow_builder.proofs.Below.{numbers_fixed, numbers_indexed}
use Rattle.arrow_builder.proofs.NodeSlots.{node_len}
use Rattle.arrow_builder.proofs.indexed.is_indexed.Goals as goal

pub are_indices-requires-clause-laid : goal.are_indices-requires-clause-laid
are_indices-requires-clause-laid c =
    let a = c.node.inside in
    let e = c.in-Some.encoding in
    let is : (field_view a.field).head.encoding ≡ Some e = sym (field_encoding a.field) ∙ c.in-Some.is in
    let le : c.args.len ≤ a.len = omega (arith, c.requires, node_len a c.args.node.now c.node.view_is) in
    let validity : c.deref.result.now ≡ a.buffers.validity.items = grind (arith, common_steps) in
    let values : c.deref-2.result.now ≡ a.buffers.values.items = grind (arith, common_steps) in
    rw (c.int_width.ensures.same, validity, values) (numbers_fixed a e c.args.len is le c.node.invariant)

pub returns : goal.returns
returns c =
    let a = c.node.inside in
    let e = c.in-Some.encoding in
    let ds = c.args.dictionaries.entries.now in
    let is : (field_view a.field).head.encoding ≡ Some e = sym (field_encoding a.field) ∙ c.in-Some.is in
    let le : c.args.len ≤ a.len = omega (arith, c.requires, node_len a c.args.node.now c.node.view_is) in
    let validity : c.deref.result.now ≡ a.buffers.validity.items = grind (arith, common_steps) in
    let values : c.deref-2.result.now ≡ a.buffers.values.items = grind (arith, common_steps) in
    let known = rw (c.int_width.ensures.same, validity, values, c.count_for.ensures) at c.are_indices.ensures in
    let view = subst (λ (b : Built). AreIndices c.args.len (int_width e.index.bits) e.index.signed a.buffers.validity.items a.buffers.values.items (length (values_by ds e.id)) ↔ IsIndexed ds b.field.head (take c.args.len b.raw)) c.node.view_is
    (numbers_indexed ds a e c.args.len is le) in
    (λ t. view.0 (known.0 t), λ h. known.1 (view.1 h))
