use Rattle.std.proofs.Common.{◌+◌, ap, get_or, subst, ◌∙◌}
use Rattle.std.specs.Prelude.{OnOk}
use Rattle.std.proofs.lemmas.Result.{on_ok_weaker}
use Rattle.arrow_data.specs.Column.{Column}
use Rattle.arrow_layout.specs.PlainValue.{value_at}
use Rattle.arrow_csv.specs.Layouts.{null_by}
use Rattle.arrow_csv.specs.Made.{IsPreparedFor}
use Rattle.arrow_csv.specs.declared.column_text.DictionaryTexts.{DictionaryTexts}
use Rattle.arrow_csv.specs.Texts.{Appends, IsFieldOf, IsSomeField}
use Rattle.arrow_csv.proofs.Joining.{appends_weaker}
use Rattle.arrow_csv.proofs.Making.{copied_field}
use Rattle.arrow_csv.proofs.Written.{on_appended}
use Rattle.arrow_csv.proofs.column_text.ColumnText.push.Goals as goal

-- the field of the value that the slot refers to was copied
pub returns-in-Some : goal.returns-in-Some
returns-in-Some c =
    let slots = c.self.inside.slots in
    let old = c.args.out.now.items in
    let has = subst (IsPreparedFor slots) c.in-Entries.is c.self.invariant in
    let n = c.in-Some.n in
    let from = c.index.result.now in
    let to = c.index-in-Some.result.now in
    let first = c.index.ensures ∙ ap (λ (f : DictionaryTexts). get_or f.places.items n from) c.deref-in-Some-2.ensures in
    let last = c.index-in-Some.ensures ∙ ap (λ (f : DictionaryTexts). get_or f.places.items (n + 1) to) c.deref-in-Some-3.ensures in
    let same = c.deref-in-Some.ensures.value ∙ ap (λ (f : DictionaryTexts). f.bytes.items) c.deref.ensures in
    subst (λ (k : Column). OnOk c.extend_from_slice.result (Appends (IsFieldOf (null_by c.args.null) k.data_type (value_at k.resolved c.args.i)) old c.extend_from_slice.new.self.items)) c.self.view_is
    (on_appended c.extend_from_slice.result old _ _ c.extend_from_slice.ensures.items
    (copied_field (null_by c.args.null) slots c.in-Entries.fields c.args.i n _ _ old _ _ has c.in-Some.ensures first last same))

-- the value that was read from the slot
pub returns-in_default : goal.returns-in_default
returns-in_default c =
    let null = null_by c.args.null in
    let old = c.args.out.now.items in
    let new = c.push_field.new.out.items in
    let column = c.array.result.now in
    on_ok_weaker c.push_field.result (λ e. subst (λ (k : Column). Appends (IsFieldOf null k.data_type (value_at k.resolved c.args.i)) old new) (c.array.ensures ∙ c.self.view_is)
    (appends_weaker (IsSomeField column.data_type (value_at column.resolved c.args.i)) (IsFieldOf null column.data_type (value_at column.resolved c.args.i)) old new (λ text is. is null) e)) c.push_field.ensures
