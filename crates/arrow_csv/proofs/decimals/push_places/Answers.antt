use Rattle.std.proofs.Common.{◌≡◌, to_z, of_z, int_lt, pos, false, unsigned_abs, sym, ap, ◌∙◌, arith, rules}
use Rattle.std.proofs.lemmas.Int.{to_z-of_z}
use Rattle.std.proofs.lemmas.Result.{on_ok_weaker}
use Rattle.std.specs.Int.{w8, w128}
use Rattle.arrow_csv.proofs.DecimalTexts.{exponent_text}
use Rattle.arrow_csv.proofs.decimals.push_places.Goals as goal

-- the exponent is the number of zeros that follow the digits
pub returns-in_ok-push : goal.returns-in_ok-push
returns-in_ok-push c =
    let scale = to_z-of_z w8 c.args.scale c.ranges.scale in
    let places = c.unsigned_abs-places.result in
    let size = c.unsigned_abs-places.ensures in
    let number : to_z w128 (of_z w128 c.from.result) ≡ pos places = search rules in
    let low : int_lt (pos 0) c.args.scale ≡ false = ap (int_lt (pos 0)) (sym scale) ∙ c.if-scale-gt0.false in
    on_ok_weaker c.push_number.result
    (exponent_text c.args.scale _ places c.args.out.now.items c.args.digits.now c.extend_from_slice-else-scale-eq0.new.self.items c.push.new.self.items _ low c.if-scale-eq0.false (size.value ∙ ap unsigned_abs scale) number (omega (arith, size.bound))
    c.in_ok-extend_from_slice.ensures.items c.in_ok-push.ensures.items)
    c.push_number.ensures.text
