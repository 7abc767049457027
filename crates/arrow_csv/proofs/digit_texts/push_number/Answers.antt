use Rattle.std.proofs.Common.{◌++◌, to_z, of_z, FitsSigned, sym, ap, ◌∙◌, subst}
use Rattle.std.proofs.lemmas.Int.{to_z-of_z}
use Rattle.std.specs.Int.{w64, w128}
use Rattle.std.specs.Fmt.{signed_decimal}
use Rattle.arrow_csv.proofs.Digits.{one_digit}
use Rattle.arrow_csv.proofs.digit_texts.push_number.Goals as goal

-- the digit is the text
pub returns-in_ok-push-in-Ok-clause-text : goal.returns-in_ok-push-in-Ok-clause-text
returns-in_ok-push-in-Ok-clause-text c =
    let digit = c.in-Ok.digit in
    let is = c.in-Ok.ensures in
    let read = to_z-of_z w64 digit (subst (λ z. FitsSigned w64 z) (sym is.1) is.0) in
    let same = read ∙ is.1 ∙ to_z-of_z w128 c.args.number c.ranges.number in
    let text = one_digit (to_z w64 (of_z w64 digit)) c.if-digit-ge0.true c.if-digit-lt10.true ∙ ap signed_decimal same in
    c.in_ok-push-in-Ok.ensures.items ∙ ap (λ t. c.args.out.now.items ++ t) text
