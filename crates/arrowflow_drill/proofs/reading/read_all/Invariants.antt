use Rattle.std.proofs.Common.{◌≡◌, drop, map, take}
use Rattle.arrowflow_session.specs.Asked.{asked_of}
use Rattle.arrowflow_drill.specs.Reading.{AreRead}
use Rattle.arrowflow_drill.specs.DrillOptions.{asks_of}
use Rattle.arrowflow_drill.proofs.reading.read_all.Given as goal

-- the inputs so far were read, each as a connection, and the others are unchanged
abbrev pub invariant-loop-number : goal.invariant-loop-number
invariant-loop-number g l =
    AreRead g.R.Input.remaining g.R.Input.has_failed (asks_of l.terms) 0 (take l.number l.initial.inputs) (take l.number l.inputs) (map asked_of l.connections.items)
    × (drop l.number l.inputs ≡ drop l.number l.initial.inputs)
