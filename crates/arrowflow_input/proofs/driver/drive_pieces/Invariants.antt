use Rattle.std.proofs.Common.{◌≡◌, ◌-◌, ◌+◌, ◌^◌, List, [], ℕ}
use Rattle.std.specs.Io.KnownBytes.{Consumes}
use Rattle.arrow_stream_reader.specs.State.{nothing_yet}
use Rattle.arrow_stream_reader.specs.declared.reader.Verdict.TheVariants.{Open}
use Rattle.arrowflow_input.specs.Driver.{AreGiven}
use Rattle.arrowflow_input.specs.Session.{IsReaderAfter}
use Rattle.arrowflow_input.proofs.Reading.{reached}
use Rattle.arrowflow_input.proofs.driver.drive_pieces.Given as goal

-- the messages of the bytes read so far were given to the consumer, which asks for more, and the stream goes on
abbrev pub invariant-loop-count : goal.invariant-loop-count
invariant-loop-count g l = (bytes : List ℕ)
    × Consumes (g.R.Input.remaining l.initial.input) (g.R.Input.remaining l.input) bytes
    × ((start : g.C.Consumer.Start) → g.C.Consumer.keeps start l.fn.consumer l.initial.reader.limits nothing_yet [] → AreGiven (g.C.Consumer.keeps start l.consumer) bytes l.reader)
    × IsReaderAfter bytes l.reader
    × (l.reader.limits ≡ l.initial.reader.limits)
    × (l.reader.at.verdict ≡ Open)
    × g.C.Consumer.is_ready l.consumer

-- the number of bytes of a stream that may still come
abbrev pub decreases-loop-count : goal.decreases-loop-count
decreases-loop-count g l = 2 ^ 62 + 9 - reached l.reader
