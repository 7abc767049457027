use Rattle.std.proofs.Common.{◌≤◌, ◌-◌}
use Rattle.arrow_bits.specs.Offsets.{NeverFall}
use Rattle.arrow_bits.proofs.large_lanes.never_fall.Given as goal

-- none of the numbers so far is above the next one
abbrev pub invariant-loop-i : goal.invariant-loop-i
invariant-loop-i l = record { inside : l.i ≤ l.len; below : NeverFall 8 l.bytes 0 l.i }

-- the numbers that are left
abbrev pub decreases-loop-i : goal.decreases-loop-i
decreases-loop-i l = l.len - l.i
