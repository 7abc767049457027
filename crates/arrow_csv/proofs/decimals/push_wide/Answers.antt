use Rattle.std.proofs.Common.{◌≡◌, ◌≤◌, ◌-◌, ◌++◌, length, take, drop, ap, ◌∙◌, length-drop, arith}
use Rattle.std.proofs.lemmas.Int.{to_z-of_z}
use Rattle.std.proofs.lemmas.List.{take_all}
use Rattle.std.proofs.lemmas.Result.{on_ok_weaker}
use Rattle.std.specs.Fmt.{sign_text}
use Rattle.std.specs.Int.{w8}
use Rattle.arrow_csv.specs.Decimals.{numeral, scaled}
use Rattle.arrow_csv.specs.Wide.{wide_number, without_zeros}
use Rattle.arrow_csv.proofs.LastDigits.{length-last_digits, trimmed}
use Rattle.arrow_csv.proofs.decimals.push_wide.Goals as goal

-- without leading zeros the digits are those of the number
pub returns-else-number-eq0 : goal.returns-else-number-eq0
returns-else-number-eq0 c =
    let scale = to_z-of_z w8 c.args.scale c.ranges.scale in
    let number = wide_number c.args.number in
    let all = c.digits-digits.ensures in
    let start = c.first_digit.result in
    let rest = drop start c.digits-digits.result in
    let long : length rest ≤ 95 - start = omega (arith, length-drop start c.digits-digits.result, ap length all, length-last_digits 95 number) in
    let shown : take (95 - start) rest ≡ numeral number = take_all (95 - start) rest long ∙ c.first_digit.ensures.rest ∙ ap without_zeros all ∙ trimmed 95 number (omega arith) (omega arith) in
    on_ok_weaker c.push_scaled.result (λ items. items ∙ (λ i. c.args.out.now.items ++ (sign_text c.args.negative ++ scaled (scale i) (shown i)))) c.push_scaled.ensures
