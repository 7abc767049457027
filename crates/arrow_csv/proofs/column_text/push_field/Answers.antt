use Rattle.std.proofs.Common.{◌≡◌, ap, sym, ◌∙◌, subst, arith, rules, to_z, of_z}
use Rattle.std.specs.Int.{w128}
use Rattle.std.proofs.lemmas.Result.{on_ok_weaker}
use Rattle.arrow_data.specs.Column.{resolved_row_of, values_from}
use Rattle.arrow_layout.specs.PlainValue.{int_value, value_at}
use Rattle.arrow_data.specs.Shown.{HoldsValue}
use Rattle.arrow_types.specs.View.{fields_view, type_view}
use Rattle.arrow_csv.specs.Floats.{IsNumberText}
use Rattle.arrow_csv.specs.Intervals.{bytes_text}
use Rattle.arrow_csv.specs.Texts.{IsSomeField, IsListOf, IsPlain, IsStructOf}
use Rattle.arrow_csv.proofs.UnitTexts.{binary_text}
use Rattle.arrow_csv.proofs.Joining.{appends_weaker, list_text, number_text, struct_text}
use Rattle.arrow_csv.proofs.Written.{IsSomeText, field_appended, plain_field}
use Rattle.arrow_csv.proofs.column_text.push_field.Goals as goal

-- the text of the list follows the text before, between quotes if it needs them
pub returns-in_ok-push_items-in-List : goal.returns-in_ok-push_items-in-List
returns-in_ok-push_items-in-List c =
    let column = c.args.column.now in
    let list = c.in-List in
    let items = list.items.now in
    let value = value_at column.resolved c.args.i in
    let old = c.args.out.now.items in
    let whole = c.push_items.new.out.items in
    let lists = subst (HoldsValue column c.args.i) list.is c.requires.holds in
    let text = appends_weaker (IsListOf items.data_type (values_from items.resolved list.start list.end)) (IsSomeText column.data_type value) old whole
    (λ text is null. list_text column items c.args.i list.start list.end null text lists is) c.in_ok-push_items-in-List.ensures in
    on_ok_weaker c.quote_from.result (λ e. field_appended column.data_type value old whole _ c.len-place.result (omega (arith, c.len-place.ensures)) text e) c.quote_from.ensures

-- the number is written as it is
pub returns-in-Int : goal.returns-in-Int
returns-in-Int c =
    let column = c.args.column.now in
    let type = type_view c.data_type.result.now in
    let z = c.in-Int.number in
    let value = value_at column.resolved c.args.i in
    let holds = subst (HoldsValue column c.args.i) c.in-Int.is c.requires.holds in
    let same : to_z w128 (of_z w128 z) ≡ z = search rules in
    on_ok_weaker c.push_int.result (λ e. appends_weaker (IsPlain (IsNumberText type.tag (to_z w128 (of_z w128 z)))) (IsSomeField column.data_type value) _ _
    (λ text is. plain_field column.data_type value text (λ null. number_text null column.data_type type value (to_z w128 (of_z w128 z)) text (holds ∙ ap int_value (sym same)) c.data_type.ensures is.0) is.1) e) c.push_int.ensures

-- so is the text of bytes
pub returns-in-Bytes : goal.returns-in-Bytes
returns-in-Bytes c =
    let column = c.args.column.now in
    let type = type_view c.data_type-in-Bytes.result.now in
    let bytes = c.in-Bytes.bytes.now in
    let value = value_at column.resolved c.args.i in
    let holds = subst (HoldsValue column c.args.i) c.in-Bytes.is c.requires.holds in
    on_ok_weaker c.push_binary.result (λ e. appends_weaker (IsPlain (λ text. text ≡ bytes_text type.tag bytes)) (IsSomeField column.data_type value) _ _
    (λ text is. plain_field column.data_type value text (λ null. binary_text null column.data_type type value bytes text holds c.data_type-in-Bytes.ensures is.0) is.1) e) c.push_binary.ensures

-- and the struct
pub returns-in_ok-push_parts-in-Struct : goal.returns-in_ok-push_parts-in-Struct
returns-in_ok-push_parts-in-Struct c =
    let column = c.args.column.now in
    let parts = c.in-Struct in
    let fields = fields_view c.children.result.now in
    let values = resolved_row_of parts.children.now parts.place in
    let value = value_at column.resolved c.args.i in
    let old = c.args.out.now.items in
    let whole = c.push_parts.new.out.items in
    let holds = subst (HoldsValue column c.args.i) parts.is c.requires.holds in
    let same = c.children.ensures.fields ∙ ap (λ x. x.children) c.data_type-in-Struct.ensures in
    let text = appends_weaker (IsStructOf fields values) (IsSomeText column.data_type value) old whole
    (λ text is null. struct_text null column.data_type fields values value text holds.same same is) c.in_ok-push_parts-in-Struct.ensures in
    on_ok_weaker c.quote_from-in-Struct.result (λ e. field_appended column.data_type value old whole _ c.len-from.result (omega (arith, c.len-from.ensures)) text e) c.quote_from-in-Struct.ensures

-- the value is not a null
pub returns-in-Null : goal.returns-in-Null
returns-in-Null c = absurd (c.requires.some c.in-Null.is)
