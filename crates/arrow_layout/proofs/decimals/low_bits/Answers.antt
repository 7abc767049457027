use Rattle.std.proofs.Common.{◌≡◌, ◌<◌, ℕ, get_or, ap, ◌∙◌, rules, arith, to_z, of_z}
use Rattle.arrow_bits.proofs.Reading.{number_at-lt}
use Rattle.arrow_bits.specs.Numbers.{number_at, signed_at}
use Rattle.std.specs.Int.{cast_unsigned, w128}
use Rattle.arrow_layout.proofs.LowBits.{low_again}
use Rattle.arrow_layout.proofs.decimals.low_bits.Goals as goal

-- the sign is taken off again
pub returns : goal.returns
unfolding signed_at
returns c =
    let bytes = c.args.bytes.now in
    let small : (i : ℕ) → get_or bytes i 0 < 256 = search rules in
    let same : to_z w128 (of_z w128 c.int_at.result) ≡ c.int_at.result = search rules in
    c.cast_unsigned.ensures ∙ ap (cast_unsigned w128) (same ∙ c.int_at.ensures) ∙ low_again (number_at bytes 0 16) (omega (arith, number_at-lt 0 16 bytes small (omega (arith, c.requires))))
