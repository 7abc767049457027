use Rattle.std.proofs.Common.{◌≡◌, pos, sym, subst, to_z, of_z, rules}
use Rattle.std.proofs.lemmas.Int.{to_z-of_z}
use Rattle.std.proofs.lemmas.Result.{on_ok_weaker}
use Rattle.std.specs.Int.{w8, w128}
use Rattle.json.specs.Json.{number, string}
use Rattle.arrow_csv.specs.Decimals.{decimal_text}
use Rattle.arrow_csv.specs.Intervals.{months_text}
use Rattle.arrow_json.specs.Scalars.{IsNumberJson}
use Rattle.arrow_json.proofs.Joining.{adds_same}
use Rattle.arrow_json.proofs.scalars.write_int.Goals as goal

-- a decimal has its scale
pub returns-in-Decimal : goal.returns-in-Decimal
returns-in-Decimal c =
    let z = c.args.number in
    let k = c.in-Decimal.scale in
    let scale : to_z w8 (of_z w8 k) ≡ k = search rules in
    let whole = to_z-of_z w128 z c.ranges.number in
    let text = decimal_text (to_z w8 (of_z w8 k)) (to_z w128 (of_z w128 z)) in
    let is : IsNumberJson c.args.kind z (number text) = subst (λ kind. IsNumberJson kind z (number text)) (sym c.in-Decimal.is) (λ i. number (decimal_text (scale i) (whole i))) in
    on_ok_weaker c.write_decimal.result (adds_same (IsNumberJson c.args.kind z) (number text) c.args.pen.now.writer c.write_decimal.new.pen.writer is) c.write_decimal.ensures

-- an interval is that many months
pub returns-in-Interval : goal.returns-in-Interval
returns-in-Interval c =
    let z = c.args.number in
    let whole = to_z-of_z w128 z c.ranges.number in
    let text = months_text (to_z w128 (of_z w128 z)) in
    let is : IsNumberJson c.args.kind z (string text) = subst (λ kind. IsNumberJson kind z (string text)) (sym c.in-Interval.is) (λ i. string (months_text (whole i))) in
    on_ok_weaker c.write_months.result (adds_same (IsNumberJson c.args.kind z) (string text) c.args.pen.now.writer c.write_months.new.pen.writer is) c.write_months.ensures

-- any other number is a whole number
pub returns-in-Plain : goal.returns-in-Plain
returns-in-Plain c =
    let z = c.args.number in
    let whole = to_z-of_z w128 z c.ranges.number in
    let text = decimal_text (pos 0) (to_z w128 (of_z w128 z)) in
    let is : IsNumberJson c.args.kind z (number text) = subst (λ kind. IsNumberJson kind z (number text)) (sym c.in-Plain.is) (λ i. number (decimal_text (pos 0) (whole i))) in
    on_ok_weaker c.write_number.result (adds_same (IsNumberJson c.args.kind z) (number text) c.args.pen.now.writer c.write_number.new.pen.writer is) c.write_number.ensures
