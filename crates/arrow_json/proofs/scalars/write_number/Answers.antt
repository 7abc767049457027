use Rattle.std.proofs.Common.{◌≡◌, pos, ap, ◌∙◌, to_z, of_z, rules}
use Rattle.std.proofs.lemmas.Int.{to_z-of_z}
use Rattle.std.proofs.lemmas.Result.{on_ok_weaker}
use Rattle.std.specs.Fmt.{signed_decimal}
use Rattle.std.specs.Int.{w64, w128}
use Rattle.json.specs.Json.{number}
use Rattle.arrow_csv.specs.Decimals.{decimal_text}
use Rattle.arrow_json.proofs.DecimalNumbers.{whole_text}
use Rattle.arrow_json.proofs.Joining.{adds_same, adds_token}
use Rattle.arrow_json.proofs.scalars.write_number.Goals as goal

-- a number of 64 bits is written by its digits
pub returns-in-Ok : goal.returns-in-Ok
returns-in-Ok c =
    let z = c.args.whole in
    let same : to_z w64 (of_z w64 c.in-Ok.short) ≡ z = search rules in
    let text = signed_decimal (to_z w64 (of_z w64 c.in-Ok.short)) in
    let is : number text ≡ number (decimal_text (pos 0) z) = ap (λ y. number (signed_decimal y)) same ∙ ap number (whole_text z c.ranges.whole) in
    on_ok_weaker c.i64.result (λ put. adds_token (λ json. json ≡ number (decimal_text (pos 0) z)) (number text) c.args.pen.now.writer c.i64.new.self is put c.i64.ensures.room.0) c.i64.ensures.ok

-- and so is a longer one
pub returns-in-Err : goal.returns-in-Err
returns-in-Err c =
    let z = c.args.whole in
    let text = decimal_text (pos 0) (to_z w128 (of_z w128 z)) in
    let is : number text ≡ number (decimal_text (pos 0) z) = ap (λ y. number (decimal_text (pos 0) y)) (to_z-of_z w128 z c.ranges.whole) in
    on_ok_weaker c.write_decimal.result (adds_same (λ json. json ≡ number (decimal_text (pos 0) z)) (number text) c.args.pen.now.writer c.write_decimal.new.pen.writer is) c.write_decimal.ensures
