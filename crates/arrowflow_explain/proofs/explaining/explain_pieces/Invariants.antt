use Rattle.std.proofs.Common.{◌≡◌, ◌-◌, ◌+◌, ◌^◌, List, ℕ}
use Rattle.std.specs.Io.KnownBytes.{Consumes}
use Rattle.arrow_stream_reader.specs.declared.reader.Verdict.TheVariants.{Open}
use Rattle.arrowflow_input.proofs.Reading.{reached}
use Rattle.arrowflow_explain.specs.Explains.{IsKept}
use Rattle.arrowflow_explain.proofs.explaining.explain_pieces.Given as goal

-- the bytes read so far leave the reader open, and the bytes of its current message are kept
abbrev pub invariant-loop-count : goal.invariant-loop-count
invariant-loop-count g l = (bytes : List ℕ)
    × Consumes (g.R.Input.remaining l.initial.input) (g.R.Input.remaining l.input) bytes
    × IsKept bytes l.work.reader l.work.kept.items
    × (l.work.reader.limits ≡ l.work.limits)
    × (l.work.limits ≡ l.initial.work.limits)
    × (l.work.reader.at.verdict ≡ Open)

-- the number of bytes of a stream that may still come
abbrev pub decreases-loop-count : goal.decreases-loop-count
decreases-loop-count g l = 2 ^ 62 + 9 - reached l.work.reader
