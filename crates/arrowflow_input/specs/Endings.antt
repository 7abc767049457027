-- How a stream ends, and what is sent of a text (Columnar Format, "IPC Streaming Format").
use Rattle.std.specs.Prelude.{◌≡◌, ℕ, ◌+◌, ◌⊎◌, List, Option, Result, Ok, Err}
use Rattle.std.specs.Io.KnownBytes.{Appends, IsAtEnd}
use Rattle.arrow_types.specs.Limits.{LimitNumbers}
use Rattle.arrow_sink.specs.Sinks.{AcceptsBeginning}
use Rattle.arrow_stream_reader.specs.declared.fault.Fault.{Fault}
use Rattle.arrow_stream_reader.specs.declared.kind.Rejection.{Rejection}
use Rattle.arrow_stream_reader.specs.declared.reader.Verdict.{Verdict}
use Rattle.arrow_stream_reader.specs.declared.reader.Verdict.TheVariants.{Done, Bad, Open}
use Rattle.arrow_stream_reader.specs.Front.{Entry, Snapshot, FrontOf}
use Rattle.arrow_stream_reader.specs.Kind.{kind_of}
use Rattle.arrow_stream_reader.specs.Stream.{ended_so}
use Rattle.arrowflow_input.specs.declared.tool_fault.ToolFault.{ToolFault}
use Rattle.arrowflow_input.specs.declared.tool_fault.ToolFault.TheVariants.{Input, Output, Stream, Refused, Memory}

-- A text was sent to an output that had failed this number of times: all of it, or a prefix, if the output failed
-- once more or an allocation failed. Neither an input nor a stream is at fault then.
abbrev pub SendsText : Option (List ℕ) → ℕ → List ℕ → Result (Unit {0}) ToolFault → Option (List ℕ) → ℕ → Type 0
SendsText before failed text (Ok done) after failed' = Appends before after text × (failed' ≡ failed)
SendsText before failed text (Err Output) after failed' = AcceptsBeginning before after text × (failed' ≡ failed + 1)
SendsText before failed text (Err Memory) after failed' = AcceptsBeginning before after text × (failed' ≡ failed)
SendsText before failed text (Err (Input number)) after failed' = ⊥
SendsText before failed text (Err (Stream fault)) after failed' = ⊥
SendsText before failed text (Err (Refused what kind)) after failed' = ⊥

-- a text of this form was sent
abbrev pub SendsSome : (List ℕ → Type 0) → Option (List ℕ) → ℕ → Result (Unit {0}) ToolFault → Option (List ℕ) → ℕ → Type 0
SendsSome P before failed answer after failed' = (text : List ℕ) × P text × SendsText before failed text answer after failed'

-- the verdict rejects the message at this offset, and this is the fault that reports it
abbrev pub IsBadBy : Verdict → ℕ → Fault → Type 0
IsBadBy verdict place fault = (k : Rejection) × (verdict ≡ Bad k) × (fault ≡ record { kind = kind_of k; place = place })

-- the stream ended well: with its end marker, or with the input at the end of a message
abbrev pub EndsWell : Option (List ℕ) → Snapshot → Type 0
EndsWell left e = (ended_so e ≡ Ok tt) × ((e.verdict ≡ Done) ⊎ IsAtEnd left)

-- it ended by a rejection, or with the input at an offset at which no stream may end
abbrev pub EndsBadly : Option (List ℕ) → Snapshot → Fault → Type 0
EndsBadly left e fault = IsBadBy e.verdict e.place fault ⊎ ((ended_so e ≡ Err fault) × IsAtEnd left)

-- at these bytes the stream goes on: none of their messages is rejected, and no end marker came
pub record IsOpenAt (limits : LimitNumbers) (bytes : List ℕ) : Type 0 where
  pub entries : List Entry
  pub snapshot : Snapshot
  pub front : FrontOf limits bytes entries snapshot
  pub goes_on : snapshot.verdict ≡ Open
