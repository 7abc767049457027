use Rattle.std.proofs.Common.{◌≤◌, ◌-◌}
use Rattle.arrow_bits.specs.AtMost.{AreAtMost}
use Rattle.arrow_bits.proofs.at_most.all_are_at_most.Given as goal

-- none of the numbers so far is above the top
abbrev pub invariant-loop-i : goal.invariant-loop-i
invariant-loop-i l = record { inside : l.i ≤ l.len; below : AreAtMost l.width l.bytes 0 l.i l.top }

-- the numbers that are left
abbrev pub decreases-loop-i : goal.decreases-loop-i
decreases-loop-i l = l.len - l.i
