use Rattle.arrow_bits.specs.AtMost.{AreAtMost}
use Rattle.arrow_bits.proofs.at_most.rest_is_at_most.Given as goal

-- none of the numbers so far is above the top
abbrev pub invariant-loop-i : goal.invariant-loop-i
invariant-loop-i l = AreAtMost l.width l.bytes l.from l.i l.top
