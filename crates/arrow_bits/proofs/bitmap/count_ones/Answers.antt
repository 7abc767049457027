use Rattle.std.proofs.Common.{◌≡◌, ◌+◌, ◌*◌, ◌/◌, ap, arith}
use Rattle.arrow_bits.specs.Bitmap.{ones_of}
use Rattle.arrow_bits.proofs.Listed.{few_ones}
use Rattle.arrow_bits.proofs.Counting.{ones_byte, ones_rest}
use Rattle.arrow_bits.proofs.bitmap.count_ones.Goals as goal

-- there are no more set bits than bits
pub overflow_add-ones : goal.overflow_add-ones
overflow_add-ones c =
    let bytes = c.args.bytes.now in
    let byte = ones_byte bytes c.loop-i.i (c.type_inv.bytes c.loop-i.i).fits in
    let few = few_ones (8 * (c.loop-i.i + 1)) bytes in
    omega (arith, byte, few, c.loop-i.invariant, c.loop-i-test.true, c.ranges.len.fits)

-- one more byte
pub loop-i-preserved : goal.loop-i-preserved
loop-i-preserved c =
    let byte = ones_byte c.args.bytes.now c.loop-i.i (c.type_inv.bytes c.loop-i.i).fits in
    omega (arith, byte, c.loop-i.invariant)

-- the bits of the last byte are few as well
pub overflow_add-ones-then-rest-gt0 : goal.overflow_add-ones-then-rest-gt0
overflow_add-ones-then-rest-gt0 c =
    let bytes = c.args.bytes.now in
    let here : c.loop-i.i ≡ c.args.len / 8 = omega arith in
    let rest = ones_rest bytes c.args.len in
    let few = few_ones c.args.len bytes in
    let before = ap (λ i. ones_of (8 * i) bytes) here in
    omega (arith, rest, few, before, c.loop-i.invariant, c.ranges.len.fits)

-- the full bytes and the remaining bits are all
pub returns-then-rest-gt0 : goal.returns-then-rest-gt0
returns-then-rest-gt0 c =
    let bytes = c.args.bytes.now in
    let here : c.loop-i.i ≡ c.args.len / 8 = omega arith in
    let rest = ones_rest bytes c.args.len in
    let before = ap (λ i. ones_of (8 * i) bytes) here in
    omega (arith, rest, before, c.loop-i.invariant)
