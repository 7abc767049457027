-- The numbers in bytes lie in the range of their width and sign.
use Rattle.std.proofs.Common.{ℕ, ◌+◌, ◌*◌, ◌^◌, ◌<◌, ◌≤◌, Bool, true, false, List, length, get_or, arith}
use Rattle.std.proofs.lemmas.Int.{ints}
use Rattle.byteorder.proofs.Bytes.{pow256}
use Rattle.arrow_bits.specs.Numbers.{number_at, signed_at, twos_complement, int_of, FitsInt}
use Rattle.arrow_bits.proofs.Reading.{number_at-lt}
use Rattle.arrow_bits.proofs.Written.{halves}

-- a number read as signed
signed_range : (width n : ℕ) → 1 ≤ width → n < 2 ^ (8 * width) → FitsInt width true (twos_complement width n)
signed_range width n one h = grind (arith, ints, halves width one)

-- a number at an offset, read as signed or unsigned
pub int_fits : (width place : ℕ) (signed : Bool) (bytes : List ℕ) → 1 ≤ width → ((i : ℕ) → get_or bytes i 0 < 256) → place + width ≤ length bytes
    → FitsInt width signed (int_of bytes place width signed)
unfolding signed_at
int_fits width place true bytes one small inside =
    signed_range width (number_at bytes place width) one (omega (arith, number_at-lt place width bytes small inside, pow256 width))
int_fits width place false bytes one small inside =
    let below : number_at bytes place width < 2 ^ (8 * width) = omega (arith, number_at-lt place width bytes small inside, pow256 width) in
    (omega (arith, ints), omega (arith, ints, below))
