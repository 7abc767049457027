use Rattle.std.proofs.Common.{◌<◌, ◌++◌, length, sym, ap, ◌∙◌, subst, arith}
use Rattle.arrow_data.specs.Column.{Column}
use Rattle.arrow_layout.specs.PlainValue.{value_at}
use Rattle.arrow_csv.specs.Texts.{Appends, IsItemText}
use Rattle.arrow_csv.proofs.Nested.{headed_done, headed_more, headed_none, slot_of_field}
use Rattle.arrow_csv.proofs.struct_text.push_fields.Goals as goal

-- nothing was written
pub loop-field-init : goal.loop-field-init
loop-field-init c = headed_none c.args.fields.now c.args.i c.args.out.now.items

-- the field's column has the slot
pub slot-requires : goal.slot-requires
slot-requires c = slot_of_field c.args.fields.now c.args.i c.loop-field.field-index c.field-item.result c.loop-field-test.true c.field-item.is c.requires

-- the same of its array
pub push_value-requires-clause-inside : goal.push_value-requires-clause-inside
push_value-requires-clause-inside c =
    subst (λ (x : Column). c.args.i < length x.raw) (sym c.array.ensures) (slot_of_field c.args.fields.now c.args.i c.loop-field.field-index c.field-item.result c.loop-field-test.true c.field-item.is c.requires)

-- one more field is written
pub loop-field-preserved : goal.loop-field-preserved
loop-field-preserved c =
    let i = c.args.i in
    let old = c.loop-field.out.items in
    let before = c.extend_from_slice.new.self.items in
    let new = c.push_value.new.out.items in
    let text = subst (λ (x : Column). Appends (IsItemText x.data_type (value_at x.resolved i)) before new) c.array.ensures c.in_ok-push_value.ensures in
    headed_more c.args.fields.now i c.loop-field.field-index c.field-item.result c.args.out.now.items old before new c.loop-field-test.true c.field-item.is c.loop-field.invariant
    (c.in_ok-extend_from_slice.ensures.items ∙ ap (λ t. old ++ t) c.deref.ensures.value) text

-- all are
pub returns : goal.returns
returns c = headed_done c.args.fields.now c.args.i c.loop-field.field-index c.args.out.now.items c.loop-field.out.items (omega (arith, c.loop-field-test.false)) c.loop-field.invariant
