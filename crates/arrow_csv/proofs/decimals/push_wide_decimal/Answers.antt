use Rattle.std.proofs.Common.{◌≡◌, ◌<◌, ◌^◌, to_z, of_z, sym, ap, ◌∙◌, rules}
use Rattle.std.proofs.lemmas.Result.{on_ok_weaker}
use Rattle.std.specs.Int.{is_negative, w8, w128}
use Rattle.arrow_layout.specs.Decimals.{unscaled_of}
use Rattle.arrow_csv.specs.Wide.{wide_number}
use Rattle.arrow_csv.proofs.DecimalTexts.{appends_decimal}
use Rattle.arrow_csv.proofs.WideNumbers.{half_sign}
use Rattle.arrow_csv.proofs.decimals.push_wide_decimal.Goals as goal

-- the text is that of the whole number
pub returns : goal.returns
returns c =
    let d = c.args.decimal in
    let scale : to_z w8 (of_z w8 d.scale) ≡ d.scale = search rules in
    let high : to_z w128 (of_z w128 d.high) ≡ d.high = search rules in
    let small : d.low < 2 ^ 128 = search rules in
    let sign = half_sign d.high d.low small ∙ ap is_negative (sym high) in
    on_ok_weaker c.push_wide.result
    (λ items. appends_decimal d.scale (unscaled_of d) _ (is_negative (to_z w128 (of_z w128 d.high))) (wide_number c.magnitude.result) _ _ scale sign (sym c.magnitude.ensures) items)
    c.push_wide.ensures
