use Rattle.arrowflow_input.proofs.Feeding.{IsReceiving}
use Rattle.arrowflow_input.proofs.session.hand_out.Given as goal

-- the reader was given all of the bytes but the tail
abbrev pub invariant-loop-cut : goal.invariant-loop-cut
invariant-loop-cut l = IsReceiving l.fn.reader.limits l.fn.bytes l.reader l.handed.items l.rest
