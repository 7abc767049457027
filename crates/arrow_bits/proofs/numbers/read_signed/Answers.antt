use Rattle.std.proofs.Common.{◌≡◌, ap, rules, arith}
use Rattle.std.proofs.lemmas.Int.{ints}
use Rattle.arrow_bits.specs.Numbers.{signed_at, twos_complement}
use Rattle.arrow_bits.proofs.Reading.{read_byte, signed_8, signed_16, signed_32, signed_64, signed_128}
use Rattle.arrow_bits.proofs.numbers.read_signed.Goals as goal

-- each width is read with its own sign bit

pub returns-in-1 : goal.returns-in-1
unfolding signed_at
returns-in-1 c =
    let byte = read_byte c.args.place c.args.bytes.now (search rules) in
    rw c.in-1.is (omega (arith, ints, signed_8 _ (c.type_inv.bytes c.args.place).fits, ap (twos_complement 1) byte, c.cast_signed.ensures, c.from.ensures))

pub returns-in-2 : goal.returns-in-2
unfolding signed_at
returns-in-2 c =
    rw c.in-2.is (omega (arith, ints, signed_16 _ c.u16_at.type_inv, ap (twos_complement 2) c.u16_at.ensures, c.cast_signed-in-2.ensures, c.from-in-2.ensures))

pub returns-in-4 : goal.returns-in-4
unfolding signed_at
returns-in-4 c =
    rw c.in-4.is (omega (arith, ints, signed_32 _ c.u32_at.type_inv, ap (twos_complement 4) c.u32_at.ensures, c.cast_signed-in-4.ensures, c.from-in-4.ensures))

pub returns-in-8 : goal.returns-in-8
unfolding signed_at
returns-in-8 c =
    rw c.in-8.is (omega (arith, ints, signed_64 _ c.u64_at.type_inv, ap (twos_complement 8) c.u64_at.ensures, c.cast_signed-in-8.ensures, c.from-in-8.ensures))

pub returns-in_default : goal.returns-in_default
unfolding signed_at
returns-in_default c =
    let sixteen : c.args.width ≡ 16 = omega arith in
    rw sixteen (omega (arith, ints, signed_128 _ c.u128_at.type_inv, ap (twos_complement 16) c.u128_at.ensures, c.cast_signed-in_default.ensures))
