-- What the answer of a check that writes nothing says of its input.
use Rattle.std.specs.Prelude.{◌≡◌, ℕ, List, Option, Result, Ok, Err, ⊤}
use Rattle.std.specs.Io.KnownBytes.{Consumes}
use Rattle.arrow_types.specs.Limits.{LimitNumbers}
use Rattle.arrow_stream_reader.specs.Front.{Entry, Snapshot, FrontOf}
use Rattle.arrowflow_input.specs.Reads.{IsReadWhile}
use Rattle.arrowflow_input.specs.Endings.{EndsBadly, EndsWell, IsOpenAt}
use Rattle.arrowflow_input.specs.declared.tool_fault.ToolFault.{ToolFault}
use Rattle.arrowflow_input.specs.declared.tool_fault.ToolFault.TheVariants.{Input, Output, Stream, Refused, Memory}

-- the complete messages at the start of these bytes leave their stream in this state
abbrev pub LeavesStream : LimitNumbers → List ℕ → Snapshot → Type 0
LeavesStream limits bytes e = (entries : List Entry) × FrontOf limits bytes entries e

-- What is returned when these bytes were read of an input of which this is left: how their stream ends, or that a
-- read failed while it went on. No output can fail. An allocation may fail at any time.
abbrev pub Checks : LimitNumbers → List ℕ → Option (List ℕ) → Result (Unit {0}) ToolFault → Type 0
Checks limits bytes left (Ok done) = (e : Snapshot) × LeavesStream limits bytes e × EndsWell left e
Checks limits bytes left (Err (Stream fault)) = (e : Snapshot) × LeavesStream limits bytes e × EndsBadly left e fault
Checks limits bytes left (Err (Input number)) = (number ≡ 0) × IsOpenAt limits bytes
Checks limits bytes left (Err Memory) = ⊤
Checks limits bytes left (Err Output) = ⊥
Checks limits bytes left (Err (Refused what kind)) = ⊥

-- the same for an input that had these bytes before the call and has these after it
abbrev pub ChecksInput : LimitNumbers → Option (List ℕ) → Option (List ℕ) → Result (Unit {0}) ToolFault → Type 0
ChecksInput limits had left answer = (bytes : List ℕ) × Consumes had left bytes × IsReadWhile (IsOpenAt limits) bytes × Checks limits bytes left answer
