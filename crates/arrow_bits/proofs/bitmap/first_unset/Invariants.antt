use Rattle.std.proofs.Common.{◌≡◌, ◌≤◌, ◌<◌, ◌-◌, ℕ, true}
use Rattle.arrow_bits.specs.Bitmap.{bit_of}
use Rattle.arrow_bits.proofs.bitmap.first_unset.Given as goal

-- the bits before bit i are set
abbrev pub invariant-loop-i : goal.invariant-loop-i
invariant-loop-i l = (l.start ≤ l.i) × (l.i ≤ l.stop) × ((j : ℕ) → l.start ≤ j → j < l.i → bit_of l.bytes j ≡ true)

-- the bits that are left
abbrev pub decreases-loop-i : goal.decreases-loop-i
decreases-loop-i l = l.stop - l.i
