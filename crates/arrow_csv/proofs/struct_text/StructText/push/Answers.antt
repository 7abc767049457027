use Rattle.std.proofs.Common.{◌≡◌, ◌<◌, length, rules, true, sym, subst, arith}
use Rattle.std.proofs.lemmas.Result.{on_ok_weaker}
use Rattle.arrow_data.specs.Column.{Column}
use Rattle.arrow_data.specs.Same.{HaveSlot}
use Rattle.arrow_layout.specs.PlainValue.{value_at}
use Rattle.arrow_layout.specs.Slots.{is_valid_at}
use Rattle.arrow_csv.specs.Layouts.{null_by}
use Rattle.arrow_csv.specs.Made.{AreHeadedTexts, columns_of}
use Rattle.arrow_csv.specs.Texts.{Appends, IsFieldOf, IsSomeField}
use Rattle.arrow_csv.proofs.Joining.{appends_weaker}
use Rattle.arrow_csv.proofs.Nested.{braced_text, fields_have_slot}
use Rattle.arrow_csv.proofs.Written.{field_appended}
use Rattle.arrow_csv.proofs.struct_text.StructText.push.Goals as goal

-- each field's column has the slot
pub push_fields-requires : goal.push_fields-requires
push_fields-requires c =
    let own = c.self.inside in
    let less = subst (λ (x : Column). c.args.i < length x.raw) (sym c.self.view_is) c.requires in
    subst (λ fields. HaveSlot c.args.i (columns_of fields)) (sym c.deref.ensures.value) (fields_have_slot own.array.now own.validity.now own.fields.items c.args.i c.self.invariant less)

-- the text of the struct follows the text before, between quotes if it needs them
pub returns : goal.returns
returns c =
    let own = c.self.inside in
    let column = own.array.now in
    let i = c.args.i in
    let null = null_by c.args.null in
    let value = value_at column.resolved i in
    let old = c.args.out.now.items in
    let opened = c.push.new.self.items in
    let out = c.push_fields.new.out.items in
    let whole = c.push-2.new.self.items in
    let new = c.quote_from.new.out.items in
    let less = subst (λ (x : Column). i < length x.raw) (sym c.self.view_is) c.requires in
    let fields = subst (λ fs. Appends (AreHeadedTexts fs i) opened out) c.deref.ensures.value c.in_ok-push_fields.ensures in
    let valid : is_valid_at own.validity.now i ≡ true = search rules in
    let text = braced_text column own.validity.now own.fields.items i old opened out whole c.self.invariant less valid c.in_ok-push.ensures.items fields c.in_ok-push-2.ensures.items in
    on_ok_weaker c.quote_from.result (λ e. subst (λ (x : Column). Appends (IsFieldOf null x.data_type (value_at x.resolved i)) old new) c.self.view_is
    (appends_weaker (IsSomeField column.data_type value) (IsFieldOf null column.data_type value) old new (λ text is. is null) (field_appended column.data_type value old whole new c.len-place.result (omega (arith, c.len-place.ensures)) text e))) c.quote_from.ensures
