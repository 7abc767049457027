-- What is written for a stream as lines, message by message, and how that ends (Columnar Format, "IPC Streaming
-- Format").
use Rattle.std.specs.Prelude.{◌≡◌, ℕ, ◌+◌, ◌⊎◌, List, [], ◌++◌, Option, Result, Ok, Err}
use Rattle.std.specs.Io.KnownBytes.{Appends, Consumes}
use Rattle.arrow_types.specs.Limits.{LimitNumbers}
use Rattle.arrow_types.specs.Notes.{SchemaShape}
use Rattle.arrow_sink.specs.Sinks.{AcceptsBeginning}
use Rattle.arrow_stream_reader.specs.declared.fault.Fault.{Fault}
use Rattle.arrow_stream_reader.specs.declared.reader.Verdict.TheVariants.{Open}
use Rattle.arrow_stream_reader.specs.Front.{Entry, Snapshot, FrontOf}
use Rattle.arrowflow_input.specs.Reads.{IsReadWhile}
use Rattle.arrowflow_input.specs.Endings.{EndsBadly, EndsWell, IsOpenAt}
use Rattle.arrowflow_input.specs.declared.tool_fault.ToolFault.{ToolFault}
use Rattle.arrowflow_input.specs.declared.tool_fault.ToolFault.TheVariants.{Input, Output, Stream, Refused, Memory}

-- The lines of messages, given the schema after them: all of them, or a first part; and what follows those of all
-- messages of a stream, if it ends well, and if it ends with a fault.
pub record Form : Type 1 where
  pub Whole : Option SchemaShape → List Entry → List ℕ → Type 0
  pub Part : Option SchemaShape → List Entry → List ℕ → Type 0
  pub Last : Snapshot → List ℕ → Type 0
  pub Faulty : Fault → List ℕ → Type 0

-- The lines of the complete messages at the start of these bytes were written, and this text after them.
pub record AreWritten (form : Form) (limits : LimitNumbers) (bytes : List ℕ) (e : Snapshot) (last : List ℕ) (before after : Option (List ℕ)) : Type 0 where
  pub entries : List Entry
  pub front : FrontOf limits bytes entries e
  pub text : List ℕ
  pub are : form.Whole e.state.schema entries text
  pub wrote : Appends before after (text ++ last)

-- what follows the lines of all messages of a stream that ends here
abbrev pub IsEnd : Form → Option (List ℕ) → Snapshot → List ℕ → Type 0
IsEnd form left e last = (form.Last e last × EndsWell left e) ⊎ ((fault : Fault) × form.Faulty fault last × EndsBadly left e fault)

-- A prefix was written of a first part of the lines of the complete messages at the start of a prefix of these bytes,
-- and of what follows the lines of all of them.
pub record AreBegun (form : Form) (limits : LimitNumbers) (bytes : List ℕ) (left before after : Option (List ℕ)) : Type 0 where
  pub taken : List ℕ
  pub rest : List ℕ
  pub whole : taken ++ rest ≡ bytes
  pub snapshot : Snapshot
  pub entries : List Entry
  pub front : FrontOf limits taken entries snapshot
  pub text : List ℕ
  pub are : form.Part snapshot.state.schema entries text
  pub last : List ℕ
  pub is_last : (last ≡ []) ⊎ ((rest ≡ []) × IsEnd form left snapshot last)
  pub wrote : AcceptsBeginning before after (text ++ last)

-- What was written, and why the call ended, after these bytes were read of an input of which this is left. `Output`
-- is returned exactly if the output failed, and then it failed once.
abbrev pub Writes : Form → LimitNumbers → List ℕ → Option (List ℕ) → Option (List ℕ) → ℕ → Result (Unit {0}) ToolFault → Option (List ℕ) → ℕ → Type 0
Writes form limits bytes left before failed (Ok done) after failed' =
    (e : Snapshot) × (last : List ℕ) × AreWritten form limits bytes e last before after × form.Last e last × EndsWell left e × (failed' ≡ failed)
Writes form limits bytes left before failed (Err (Stream fault)) after failed' =
    (e : Snapshot) × (last : List ℕ) × AreWritten form limits bytes e last before after × form.Faulty fault last × EndsBadly left e fault × (failed' ≡ failed)
Writes form limits bytes left before failed (Err (Input number)) after failed' =
    (number ≡ 0) × ((e : Snapshot) × (e.verdict ≡ Open) × AreWritten form limits bytes e [] before after) × (failed' ≡ failed)
Writes form limits bytes left before failed (Err Output) after failed' = AreBegun form limits bytes left before after × (failed' ≡ failed + 1)
Writes form limits bytes left before failed (Err Memory) after failed' = AreBegun form limits bytes left before after × (failed' ≡ failed)
Writes form limits bytes left before failed (Err (Refused what kind)) after failed' = ⊥

-- The same for an input that had these bytes before the call and has these after it; and no piece was read after the
-- one in which the stream is rejected or ends with its marker.
abbrev pub WritesInput : Form → LimitNumbers → Option (List ℕ) → Option (List ℕ) → Option (List ℕ) → ℕ → Result (Unit {0}) ToolFault → Option (List ℕ) → ℕ → Type 0
WritesInput form limits had left before failed answer after failed' =
    (bytes : List ℕ) × Consumes had left bytes × IsReadWhile (IsOpenAt limits) bytes × Writes form limits bytes left before failed answer after failed'
