use Rattle.std.proofs.Common.{◌≡◌, take, string_bytes}
use Rattle.arrowflow_drill.specs.Lines.{lines_from}
use Rattle.arrowflow_drill.proofs.drilling.text_of.Given as goal

-- the lines of the connections so far were appended
abbrev pub invariant-loop-number : goal.invariant-loop-number
invariant-loop-number l = string_bytes l.text ≡ lines_from l.piece 0 (take l.number l.connections) (take l.number l.reports)
