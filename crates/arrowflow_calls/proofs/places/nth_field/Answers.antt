use Rattle.std.proofs.Common.{rules, ◌≡◌, ◌<◌, ◌≤◌, length, get_or, option_map, refl, ap, ◌∙◌, sym}
use Rattle.std.proofs.lemmas.Option.{slice_get_past, slice_get_read}
use Rattle.arrowflow_calls.specs.Fields.{noted_field}
use Rattle.arrowflow_calls.proofs.Counting.{nth_is}
use Rattle.arrowflow_calls.proofs.places.nth_field.Goals as goal

-- the field of the list
pub returns-in-Some : goal.returns-in-Some
returns-in-Some c =
    let within : c.args.n < length c.args.fields.now = search rules in
    let is : c.in-Some.field.now ≡ get_or c.args.fields.now c.args.n c.in-Some.field.now = search rules in
    let got = slice_get_read c.args.fields.now (length c.args.fields.now) c.args.n c.in-Some.field.now refl within is in
    sym (nth_is c.args.fields.now c.args.n ∙ ap (option_map noted_field) got)

-- there are not that many fields
pub returns-in-None : goal.returns-in-None
returns-in-None c =
    let past : length c.args.fields.now ≤ c.args.n = search rules in
    let got = slice_get_past c.args.fields.now c.args.n past in
    sym (nth_is c.args.fields.now c.args.n ∙ ap (option_map noted_field) got)
