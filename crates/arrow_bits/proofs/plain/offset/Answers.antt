use Rattle.std.proofs.Common.{ap, arith}
use Rattle.std.proofs.lemmas.Int.{ints}
use Rattle.arrow_bits.specs.Numbers.{signed_at, twos_complement}
use Rattle.arrow_bits.proofs.Reading.{signed_32}
use Rattle.arrow_bits.proofs.plain.offset.Goals as goal

-- the four bytes read as signed
pub returns : goal.returns
unfolding signed_at
returns c = omega (arith, ints, signed_32 _ c.u32_at.type_inv, ap (twos_complement 4) c.u32_at.ensures, c.cast_signed.ensures)
