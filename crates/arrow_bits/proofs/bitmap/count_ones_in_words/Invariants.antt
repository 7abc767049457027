use Rattle.std.proofs.Common.{◌≡◌, ◌*◌}
use Rattle.arrow_bits.specs.Bitmap.{ones_of}
use Rattle.arrow_bits.proofs.bitmap.count_ones_in_words.Given as goal

-- the bits before the word are counted
abbrev pub invariant-loop-i : goal.invariant-loop-i
invariant-loop-i l = l.ones ≡ ones_of (64 * l.i) l.bytes
