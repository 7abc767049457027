use Rattle.std.proofs.Common.{◌≡◌, take}
use Rattle.arrowflow_drill.specs.Counts.{rows_in}
use Rattle.arrowflow_drill.proofs.lines.rows_of.Given as goal

-- the rows of the batches so far were counted
abbrev pub invariant-loop-batch : goal.invariant-loop-batch
invariant-loop-batch l = l.rows ≡ rows_in (take l.batch-index l.batches)
