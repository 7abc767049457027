-- What is written for the schema of an input as lines of JSON, and why nothing is (Columnar Format, "IPC Streaming
-- Format": the first message of a stream is its schema).
use Rattle.std.specs.Prelude.{◌≡◌, ℕ, ◌+◌, List, [], Option, Some, Result, Ok, Err, Vec, ◌⊎◌}
use Rattle.std.specs.Io.KnownBytes.{Appends, Consumes}
use Rattle.std.specs.declared.alloc.Global.{Global}
use Rattle.arrow_types.specs.Limits.{LimitNumbers}
use Rattle.arrow_types.specs.Notes.{SchemaShape}
use Rattle.arrow_sink.specs.Sinks.{AcceptsBeginning}
use Rattle.arrow_stream_reader.specs.Stream.{ReaderView}
use Rattle.arrowflow_input.specs.Reads.{IsReadWhile}
use Rattle.arrowflow_text.specs.SchemaCall.{Answers, AreNoMessage, AreRefused, BeginWithSchema, EndEarly}
use Rattle.arrowflow_input.specs.declared.tool_fault.ToolFault.{ToolFault}
use Rattle.arrowflow_input.specs.declared.tool_fault.ToolFault.TheVariants.{Input, Output, Stream, Refused, Memory}
use Rattle.arrowflow_json.specs.Fields.{schema_lines}

-- the bytes begin with a schema, and these are its lines
pub record BeginWithLines (file : Option (List ℕ)) (limits : LimitNumbers) (bytes text : List ℕ) : Type 0 where
  pub shape : SchemaShape
  pub begins : BeginWithSchema limits bytes shape
  pub lines : text ≡ schema_lines file shape

-- What was written, and why the call ended, after these bytes were read of an input of which this is left. `Output`
-- is returned exactly if the output failed, and then it failed once. Nothing is written for a stream that does not
-- begin with a schema.
abbrev pub WritesSchema : Option (List ℕ) → LimitNumbers → List ℕ → Option (List ℕ) → Option (List ℕ) → ℕ → Result (Unit {0}) ToolFault → Option (List ℕ) → ℕ → Type 0
WritesSchema file limits bytes left before failed (Ok done) after failed' =
    (text : List ℕ) × BeginWithLines file limits bytes text × Appends before after text × (failed' ≡ failed)
WritesSchema file limits bytes left before failed (Err (Stream fault)) after failed' =
    (AreRefused limits bytes fault ⊎ EndEarly limits bytes left fault) × Appends before after [] × (failed' ≡ failed)
WritesSchema file limits bytes left before failed (Err (Input number)) after failed' =
    (number ≡ 0) × AreNoMessage limits bytes × Appends before after [] × (failed' ≡ failed)
WritesSchema file limits bytes left before failed (Err Output) after failed' =
    (text : List ℕ) × BeginWithLines file limits bytes text × AcceptsBeginning before after text × (failed' ≡ failed + 1)
WritesSchema file limits bytes left before failed (Err Memory) after failed' = Appends before after [] × (failed' ≡ failed)
WritesSchema file limits bytes left before failed (Err (Refused what kind)) after failed' = ⊥

-- The same for an input that had these bytes before the call and has these after it; and no piece was read after the
-- one in which the first message ends.
abbrev pub WritesSchemaOf : Option (List ℕ) → LimitNumbers → Option (List ℕ) → Option (List ℕ) → Option (List ℕ) → ℕ → Result (Unit {0}) ToolFault → Option (List ℕ) → ℕ → Type 0
WritesSchemaOf file limits had left before failed answer after failed' =
    (bytes : List ℕ) × Consumes had left bytes × IsReadWhile (AreNoMessage limits) bytes × WritesSchema file limits bytes left before failed answer after failed'

-- ---- the reader that has read the first message

-- these bytes begin with a schema, which the reader has; else an allocation failed
abbrev pub HasSchema : Result (Unit {0}) ToolFault → ReaderView → List ℕ → Option (List ℕ) → Type 0
HasSchema (Ok done) r bytes left = (shape : SchemaShape) × BeginWithSchema r.limits bytes shape × (r.at.state.schema ≡ Some shape)
HasSchema (Err fault) r bytes left = fault ≡ Memory

-- a text was sent to an output that had failed this many times, and flushed: all of it, or a prefix if the output
-- failed
abbrev pub SendsAll : Option (List ℕ) → ℕ → List ℕ → Result (Unit {0}) ToolFault → Option (List ℕ) → ℕ → Type 0
SendsAll before failed text (Ok done) after failed' = Appends before after text × (failed' ≡ failed)
SendsAll before failed text (Err Output) after failed' = AcceptsBeginning before after text × (failed' ≡ failed + 1)
SendsAll before failed text (Err Memory) after failed' = ⊥
SendsAll before failed text (Err (Input number)) after failed' = ⊥
SendsAll before failed text (Err (Stream fault)) after failed' = ⊥
SendsAll before failed text (Err (Refused what kind)) after failed' = ⊥

-- the lines of the schema with which these bytes begin, or why there are none
abbrev pub HasLines : Option (List ℕ) → LimitNumbers → List ℕ → Option (List ℕ) → Result (Vec ℕ Global) ToolFault → Type 0
HasLines file limits bytes left (Ok text) = BeginWithLines file limits bytes text.items
HasLines file limits bytes left (Err fault) = Answers limits bytes left (Err fault)

-- the same for an input
abbrev pub AnswersLines : Option (List ℕ) → LimitNumbers → Option (List ℕ) → Option (List ℕ) → Result (Vec ℕ Global) ToolFault → Type 0
AnswersLines file limits had left result =
    (bytes : List ℕ) × Consumes had left bytes × IsReadWhile (AreNoMessage limits) bytes × HasLines file limits bytes left result
