use Rattle.arrowflow_drill.specs.Drill.{AskTheSame}
use Rattle.arrowflow_drill.proofs.drilling.cut_up.Given as goal

-- nothing has changed except the pieces of the connections so far
abbrev pub invariant-loop-number : goal.invariant-loop-number
invariant-loop-number l = AskTheSame l.initial.connections l.connections
