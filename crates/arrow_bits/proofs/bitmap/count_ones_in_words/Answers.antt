use Rattle.std.proofs.Common.{◌+◌, ◌*◌, ap, arith}
use Rattle.std.specs.Prelude.{count_ones}
use Rattle.arrow_bits.proofs.Listed.{few_ones}
use Rattle.arrow_bits.proofs.Counting.{ones_word}
use Rattle.arrow_bits.proofs.bitmap.count_ones_in_words.Goals as goal

-- there are no more set bits than bits
pub overflow_add-ones : goal.overflow_add-ones
overflow_add-ones c =
    let bytes = c.args.bytes.now in
    let word = ones_word bytes c.loop-i.i (λ k. (c.type_inv.bytes k).fits) (omega (arith, c.loop-i-test.true, c.requires.inside)) in
    let few = few_ones (64 * (c.loop-i.i + 1)) bytes in
    omega (arith, word, few, c.loop-i.invariant, ap count_ones c.u64_at.ensures, c.loop-i-test.true, c.requires.few)

-- one more word
pub loop-i-preserved : goal.loop-i-preserved
loop-i-preserved c =
    let bytes = c.args.bytes.now in
    let word = ones_word bytes c.loop-i.i (λ k. (c.type_inv.bytes k).fits) (omega (arith, c.loop-i-test.true, c.requires.inside)) in
    omega (arith, word, c.loop-i.invariant, ap count_ones c.u64_at.ensures)
