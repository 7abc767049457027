use Rattle.std.proofs.Common.{ap, arith}
use Rattle.std.proofs.lemmas.Int.{ints}
use Rattle.arrow_bits.specs.Numbers.{signed_at, twos_complement}
use Rattle.arrow_bits.proofs.Reading.{signed_64}
use Rattle.arrow_bits.proofs.plain.large_offset.Goals as goal

-- the eight bytes read as signed
pub returns : goal.returns
unfolding signed_at
returns c = omega (arith, ints, signed_64 _ c.u64_at.type_inv, ap (twos_complement 8) c.u64_at.ensures, c.cast_signed.ensures)
