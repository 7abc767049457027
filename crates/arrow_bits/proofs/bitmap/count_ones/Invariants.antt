use Rattle.std.proofs.Common.{◌≡◌, ◌*◌}
use Rattle.arrow_bits.specs.Bitmap.{ones_of}
use Rattle.arrow_bits.proofs.bitmap.count_ones.Given as goal

-- the bits before the byte are counted
abbrev pub invariant-loop-i : goal.invariant-loop-i
invariant-loop-i l = l.ones ≡ ones_of (8 * l.i) l.bytes
