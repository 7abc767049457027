-- The number is that of the fields, with one more digit.
use Rattle.std.proofs.Common.{◌∙◌, ap₂, arith, leb}
use Rattle.arrow_layout.proofs.Widened.{half_of_others, half_of_small}
use Rattle.arrow_layout.specs.Half.{half_of_fields}
use Rattle.arrow_layout.proofs.half.to_single.Goals as goal

pub returns-in-0 : goal.returns-in-0
returns-in-0 c =
    let sign = leb 32768 c.args.bits in
    c.scaled.ensures ∙ half_of_small sign c.from-exponent.result c.from-digits.result (omega arith) c.in-0.is
    ∙ ap₂ (half_of_fields sign) c.from-exponent.ensures c.from-digits.ensures

pub returns-in_default : goal.returns-in_default
returns-in_default c =
    let sign = leb 32768 c.args.bits in
    c.scaled-in_default.ensures ∙ half_of_others sign c.from-exponent.result c.from-digits.result (omega arith) (λ least. omega arith) (λ greatest. omega arith)
    ∙ ap₂ (half_of_fields sign) c.from-exponent.ensures c.from-digits.ensures
