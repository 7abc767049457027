use Rattle.std.proofs.Common.{◌≡◌, ◌<◌, ◌^◌, ◌++◌, ap, ◌∙◌, rules, to_z, of_z}
use Rattle.std.specs.Int.{w128}
use Rattle.arrow_bits.specs.Numbers.{int_bytes, number_bytes}
use Rattle.arrow_layout.specs.PlainValue.{binary_value}
use Rattle.arrow_layout.proofs.LowBits.{low_bytes}
use Rattle.arrow_layout.proofs.Values.{bytes_view}
use Rattle.arrow_layout.proofs.value.Value.wide_decimal.Goals as goal

-- the lowest bits, then the others
pub returns : goal.returns
returns c =
    let d = c.args.decimal in
    let high_same : to_z w128 (of_z w128 d.high) ≡ d.high = search rules in
    let low_same : to_z w128 (of_z w128 c.cast_signed.result) ≡ c.cast_signed.result = search rules in
    let small : d.low < 2 ^ 128 = search rules in
    let low : c.put_int.new.out.items ≡ c.new-bytes.result.items ++ number_bytes 16 d.low =
    c.in_ok-put_int.ensures.bytes ∙ ap (λ z. c.new-bytes.result.items ++ int_bytes 16 z) (low_same ∙ c.cast_signed.ensures) ∙ ap (λ b. c.new-bytes.result.items ++ b) (low_bytes d.low small) in
    bytes_view c.put_int-2.new.out ∙ ap binary_value
    (c.in_ok-put_int-2.ensures.bytes ∙ ap (λ z. c.put_int.new.out.items ++ int_bytes 16 z) high_same ∙ ap (λ b. b ++ int_bytes 16 d.high) (low ∙ ap (λ b. b ++ number_bytes 16 d.low) c.new-bytes.ensures.items))
