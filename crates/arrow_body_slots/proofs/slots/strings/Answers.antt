use Rattle.std.proofs.Common.{◌≡◌, true, false, ap, sym, ◌∙◌}
use Rattle.arrow_data.specs.Column.{values_from}
use Rattle.arrow_layout.specs.Form.{node_form}
use Rattle.arrow_body_slots.proofs.Running.{full_of, no_strings, strings_are}
use Rattle.arrow_body_slots.specs.Runs.{are_strings}
use Rattle.arrow_body_slots.proofs.slots.strings.Goals as goal

-- they are those of the array's values
pub returns-then-holds_strings : goal.returns-then-holds_strings
returns-then-holds_strings c =
    let a = c.args.slice.array.now in
    let own = node_form a.data_type.tag a.encoding in
    let known = c.own_form-form.ensures in
    let all = full_of a c.args.slice.start c.args.slice.stop known.known c.requires.slots.inside c.requires.full in
    let is : are_strings own ≡ true = ap are_strings (sym known.form) ∙ sym c.if-holds_strings.ensures in
    c.value_bytes.ensures ∙ strings_are own a.data_type.children (values_from a.raw c.args.slice.start c.args.slice.stop) is all

-- there are none
pub returns-else-holds_strings : goal.returns-else-holds_strings
returns-else-holds_strings c =
    let a = c.args.slice.array.now in
    let own = node_form a.data_type.tag a.encoding in
    let known = c.own_form-form.ensures in
    let all = full_of a c.args.slice.start c.args.slice.stop known.known c.requires.slots.inside c.requires.full in
    let is : are_strings own ≡ false = ap are_strings (sym known.form) ∙ sym c.if-holds_strings.ensures in
    no_strings own a.data_type.children (values_from a.raw c.args.slice.start c.args.slice.stop) is all
