use Rattle.std.proofs.Common.{◌<◌, length, sym, subst, arith}
use Rattle.std.proofs.lemmas.Result.{on_ok_weaker}
use Rattle.arrow_data.specs.Column.{Column, values_from}
use Rattle.arrow_layout.specs.PlainValue.{value_at}
use Rattle.arrow_csv.specs.Layouts.{null_by}
use Rattle.arrow_csv.specs.Texts.{Appends, IsFieldOf, IsListOf, IsSomeField}
use Rattle.arrow_csv.proofs.Joining.{appends_weaker, list_text}
use Rattle.arrow_csv.proofs.Nested.{list_held}
use Rattle.arrow_csv.proofs.Written.{IsSomeText, field_appended}
use Rattle.arrow_csv.proofs.list_text.ListText.push.Goals as goal

-- the text of the list follows the text before, between quotes if it needs them
pub returns : goal.returns
returns c =
    let own = c.self.inside in
    let column = own.array.now in
    let items = own.items in
    let i = c.args.i in
    let null = null_by c.args.null in
    let value = value_at column.resolved i in
    let old = c.args.out.now.items in
    let whole = c.push_listed.new.out.items in
    let new = c.quote_from.new.out.items in
    let start = c.in-Some.start in
    let end = c.in-Some.end in
    let at = c.in-Some.ensures in
    let less = subst (λ (x : Column). i < length x.raw) (sym c.self.view_is) c.requires in
    let lists = list_held column own.validity.now own.places items i start end c.self.invariant less at.0 at.1 at.2 at.3 at.4 in
    let text = appends_weaker (IsListOf items.data_type (values_from items.resolved start end)) (IsSomeText column.data_type value) old whole (λ text is null. list_text column items i start end null text lists is) c.in_ok-push_listed.ensures in
    on_ok_weaker c.quote_from.result (λ e. subst (λ (x : Column). Appends (IsFieldOf null x.data_type (value_at x.resolved i)) old new) c.self.view_is
    (appends_weaker (IsSomeField column.data_type value) (IsFieldOf null column.data_type value) old new (λ text is. is null) (field_appended column.data_type value old whole new c.len-place.result (omega (arith, c.len-place.ensures)) text e))) c.quote_from.ensures
