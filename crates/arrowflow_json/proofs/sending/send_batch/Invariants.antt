use Rattle.std.proofs.Common.{◌≡◌, ◌≤◌, ◌-◌, List, ℕ}
use Rattle.std.specs.Io.KnownBytes.{Appends}
use Rattle.arrow_json.specs.Lines.{AreLines, rows_between}
use Rattle.arrowflow_json.proofs.sending.send_batch.Given as goal

-- the lines of the rows before `start` were sent
abbrev pub invariant-loop-start : goal.invariant-loop-start
invariant-loop-start g l = (l.start ≤ l.end)
    × ((sent : List ℕ) × AreLines (rows_between l.batch 0 l.start) sent × Appends (g.S.Sink.contents l.initial.output) (g.S.Sink.contents l.output) sent)
    × (g.S.Sink.failed l.output ≡ g.S.Sink.failed l.initial.output)

abbrev pub decreases-loop-start : goal.decreases-loop-start
decreases-loop-start g l = l.end - l.start
