use Rattle.std.proofs.Common.{◌≡◌, take}
use Rattle.arrowflow_drill.specs.Counts.{bytes_in}
use Rattle.arrowflow_drill.proofs.lines.size_of.Given as goal

-- the bytes of the parts so far were counted
abbrev pub invariant-loop-part : goal.invariant-loop-part
invariant-loop-part l = l.size ≡ bytes_in (take l.part-index l.parts)
