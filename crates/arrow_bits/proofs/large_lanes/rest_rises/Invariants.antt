use Rattle.arrow_bits.specs.Offsets.{NeverFall}
use Rattle.arrow_bits.proofs.large_lanes.rest_rises.Given as goal

-- none of the numbers so far is above the next one
abbrev pub invariant-loop-i : goal.invariant-loop-i
invariant-loop-i l = NeverFall 8 l.bytes l.from l.i
