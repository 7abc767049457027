use Rattle.std.proofs.Common.{◌≡◌, ◌*◌, ◌^◌, arith, ap, ◌∙◌}
use Rattle.std.specs.Str.Parse.{digits_value, without_leading_plus}
use Rattle.arrowflow_line.proofs.Sized.{has_bytes, lacks, short_factor}
use Rattle.arrowflow_line.proofs.sizes.size_in.Goals as goal

-- the number does not fit into 64 bits, so its product with a unit does not either
pub returns-in_default : goal.returns-in_default
returns-in_default c =
    let number = c.parted-bytes.result.0.now in
    let bytes = c.parted-bytes.result.1 in
    lacks c.args.least c.args.most c.args.text.now number bytes c.parted-bytes.ensures (λ numeral low high.
    c.in_default.ensures.value.0 (numeral, short_factor (digits_value 10 (without_leading_plus number)) bytes c.args.most (2 ^ 64) (has_bytes c.args.text.now number bytes c.parted-bytes.ensures) high (omega (arith, c.ranges.most.fits))))

-- the size is over the bounds
pub returns-in-Some-2 : goal.returns-in-Some-2
returns-in-Some-2 c =
    lacks c.args.least c.args.most c.args.text.now c.parted-bytes.result.0.now c.parted-bytes.result.1 c.parted-bytes.ensures (λ numeral low high.
    let count : c.in-Ok.count ≡ digits_value 10 (without_leading_plus c.parted-bytes.result.0.now) = c.in-Ok.ensures.value.0.1 in
    let size : c.in-Some.size ≡ digits_value 10 (without_leading_plus c.parted-bytes.result.0.now) * c.parted-bytes.result.1 = c.in-Some.ensures.1 ∙ ap (λ n. n * c.parted-bytes.result.1) count in
    omega (arith, size, high, c.if-size-most.false))

-- the size is below the bounds
pub returns-in-Some-2-2 : goal.returns-in-Some-2-2
returns-in-Some-2-2 c =
    lacks c.args.least c.args.most c.args.text.now c.parted-bytes.result.0.now c.parted-bytes.result.1 c.parted-bytes.ensures (λ numeral low high.
    let count : c.in-Ok.count ≡ digits_value 10 (without_leading_plus c.parted-bytes.result.0.now) = c.in-Ok.ensures.value.0.1 in
    let size : c.in-Some.size ≡ digits_value 10 (without_leading_plus c.parted-bytes.result.0.now) * c.parted-bytes.result.1 = c.in-Some.ensures.1 ∙ ap (λ n. n * c.parted-bytes.result.1) count in
    omega (arith, size, low, c.if-least-size.false))

-- the size does not fit into 64 bits
pub returns-in-Some-2-3 : goal.returns-in-Some-2-3
returns-in-Some-2-3 c =
    lacks c.args.least c.args.most c.args.text.now c.parted-bytes.result.0.now c.parted-bytes.result.1 c.parted-bytes.ensures (λ numeral low high.
    let count : c.in-Ok.count ≡ digits_value 10 (without_leading_plus c.parted-bytes.result.0.now) = c.in-Ok.ensures.value.0.1 in
    let size : c.in-Ok.count * c.parted-bytes.result.1 ≡ digits_value 10 (without_leading_plus c.parted-bytes.result.0.now) * c.parted-bytes.result.1 = ap (λ n. n * c.parted-bytes.result.1) count in
    c.in-Some-2.ensures (omega (arith, size, high, c.ranges.most.fits)))
