use Rattle.std.proofs.Common.{◌≡◌, ◌≤◌, ◌-◌, List, ℕ}
use Rattle.std.specs.Io.KnownBytes.{Appends}
use Rattle.arrow_csv.specs.Records.{AreBatchRows}
use Rattle.arrowflow_text.proofs.sending.send_rows.Given as goal

-- records of the rows before `start` were sent
abbrev pub invariant-loop-start : goal.invariant-loop-start
invariant-loop-start g l = (l.fn.range.start ≤ l.start) × (l.start ≤ l.fn.range.end)
    × ((sent : List ℕ) × AreBatchRows l.rows.form l.rows.number l.rows.batch l.fn.range.start l.start sent × Appends (g.S.Sink.contents l.initial.output) (g.S.Sink.contents l.output) sent)
    × (g.S.Sink.failed l.output ≡ g.S.Sink.failed l.initial.output)

abbrev pub decreases-loop-start : goal.decreases-loop-start
decreases-loop-start g l = l.fn.range.end - l.start
