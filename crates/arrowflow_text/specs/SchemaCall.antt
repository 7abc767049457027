-- Which bytes of an input decide what is printed of its schema (Columnar Format, "IPC Streaming Format": the first
-- message of a stream is its schema).
use Rattle.std.specs.Prelude.{◌≡◌, ℕ, List, [], ◌++◌, Option, Some, Result, Ok, Err, ◌⊎◌, ⊤, string_bytes}
use Rattle.std.specs.Io.KnownBytes.{Consumes, IsAtEnd}
use Rattle.std.specs.declared.string.String.{String}
use Rattle.std.specs.declared.alloc.Global.{Global}
use Rattle.arrow_types.specs.Limits.{LimitNumbers}
use Rattle.arrow_types.specs.Notes.{SchemaShape}
use Rattle.arrow_stream_reader.specs.declared.fault.Fault.{Fault}
use Rattle.arrow_stream_reader.specs.declared.kind.Kind.TheVariants.{NoSchema}
use Rattle.arrow_stream_reader.specs.declared.kind.Rejection.{Rejection}
use Rattle.arrow_stream_reader.specs.Frame.{First, whole, refused, waits}
use Rattle.arrow_stream_reader.specs.Kind.{kind_of}
use Rattle.arrow_stream_reader.specs.Front.{Entry}
use Rattle.arrow_stream_reader.specs.State.{nothing_yet, schema_given}
use Rattle.arrow_stream_reader.specs.Stream.{ReaderView}
use Rattle.arrowflow_input.specs.Reads.{IsReadWhile}
use Rattle.arrowflow_text.specs.SchemaText.{schema_lines}
use Rattle.arrowflow_input.specs.declared.tool_fault.ToolFault.{ToolFault}
use Rattle.arrowflow_input.specs.declared.tool_fault.ToolFault.TheVariants.{Input, Output, Stream, Refused, Memory}

-- the bytes begin with a complete schema message, which gives this schema
pub record BeginWithSchema (limits : LimitNumbers) (bytes : List ℕ) (shape : SchemaShape) : Type 0 where
  pub message : List ℕ
  pub after : List ℕ
  pub joined : bytes ≡ message ++ after
  pub size : ℕ
  pub comes : First limits nothing_yet 0 message (whole size (record { schema = Some shape; dictionaries = [] }) schema_given)

-- the bytes begin with a message that is rejected
pub record AreRefused (limits : LimitNumbers) (bytes : List ℕ) (fault : Fault) : Type 0 where
  pub refusal : Rejection
  pub comes : First limits nothing_yet 0 bytes (refused refusal)
  pub reported : fault ≡ record { kind = kind_of refusal; place = 0 }

-- the bytes are shorter than a message
abbrev pub AreNoMessage : LimitNumbers → List ℕ → Type 0
AreNoMessage limits bytes = First limits nothing_yet 0 bytes waits

-- the bytes are shorter than a message, and nothing is left of the input
pub record EndEarly (limits : LimitNumbers) (bytes : List ℕ) (left : Option (List ℕ)) (fault : Fault) : Type 0 where
  pub waiting : AreNoMessage limits bytes
  pub over : IsAtEnd left
  pub reported : fault ≡ record { kind = NoSchema; place = 0 }

-- the bytes begin with a schema, and this is its text
pub record BeginWithText (limits : LimitNumbers) (bytes : List ℕ) (text : List ℕ) : Type 0 where
  pub shape : SchemaShape
  pub begins : BeginWithSchema limits bytes shape
  pub lines : text ≡ schema_lines shape

-- What is returned when these bytes were read of an input and these are left. If the input fails, the bytes read are
-- shorter than a message; an allocation may fail at any time.
abbrev pub Answers : LimitNumbers → List ℕ → Option (List ℕ) → Result (String Global) ToolFault → Type 0
Answers limits bytes left (Ok text) = BeginWithText limits bytes (string_bytes text)
Answers limits bytes left (Err (Stream fault)) = AreRefused limits bytes fault ⊎ EndEarly limits bytes left fault
Answers limits bytes left (Err (Input number)) = (number ≡ 0) × AreNoMessage limits bytes
Answers limits bytes left (Err Output) = ⊥
Answers limits bytes left (Err (Refused what kind)) = ⊥
Answers limits bytes left (Err Memory) = ⊤

-- What is returned for an input that had these bytes before the call and has these after it; and no piece was read
-- after the one in which the first message ends.
abbrev pub AnswersInput : LimitNumbers → Option (List ℕ) → Option (List ℕ) → Result (String Global) ToolFault → Type 0
AnswersInput limits before left result =
    (bytes : List ℕ) × Consumes before left bytes × IsReadWhile (AreNoMessage limits) bytes × Answers limits bytes left result

-- ---- the text that is made of the first message

-- before the first message no text is made
abbrev pub HasNoMessage : List Entry → Type 0
HasNoMessage es = es ≡ []

-- these bytes begin with a schema, and this is its text; otherwise an allocation failed
abbrev pub HasText : List ℕ → Result (Unit {0}) ToolFault → ReaderView → List ℕ → Option (List ℕ) → Type 0
HasText text (Ok done) r bytes left = BeginWithText r.limits bytes text
HasText text (Err fault) r bytes left = fault ≡ Memory
