-- The state of a copy between two messages, and its step for the next one.
use Rattle.std.specs.Prelude.{◌≡◌, ◌⊎◌, ℕ, ◌+◌, false, List, length, Option, None, Some, Result, Ok, Err}
use Rattle.arrow_types.specs.Limits.{LimitNumbers}
use Rattle.arrow_types.specs.Notes.{SchemaShape}
use Rattle.arrow_types.specs.Schema.{IsNoted}
use Rattle.arrow_data.specs.Batch.{Table}
use Rattle.arrow_stream_reader.specs.Front.{Entry}
use Rattle.arrow_stream_reader.specs.State.{StreamState, Given, batch_given, dictionary_given, ended, schema_given}
use Rattle.arrow_stream_reader.specs.Tables.{tables_of}
use Rattle.arrow_sink.specs.declared.write_fault.WriteFault.{WriteFault}
use Rattle.arrow_sink.specs.declared.write_fault.WriteFault.TheVariants as kinds
use Rattle.arrow_stream_laws.specs.Sizes.{Options}
use Rattle.arrow_stream_laws.specs.Writer as writers
use Rattle.arrowflow_input.specs.declared.what.RefusedItem.{RefusedItem}
use Rattle.arrowflow_input.specs.declared.what.RefusedItem.TheVariants.{Start, Batch, Finish}
use Rattle.arrowflow_input.specs.declared.tool_fault.ToolFault.{ToolFault}
use Rattle.arrowflow_input.specs.declared.tool_fault.ToolFault.TheVariants.{Output, Refused, Memory}
use Rattle.arrowflow_copy.specs.Copy.{Copies}

-- the program's fault for a writer's fault: a rejection, or a failure of the output or of an allocation
abbrev pub fault_of : RefusedItem → WriteFault → ToolFault
fault_of what kinds.SchemaDiffers = Refused what kinds.SchemaDiffers
fault_of what kinds.TooLarge = Refused what kinds.TooLarge
fault_of what kinds.DictionariesDiffer = Refused what kinds.DictionariesDiffer
fault_of what kinds.Sink = Output
fault_of what kinds.Broken = Refused what kinds.Broken
fault_of what kinds.Finished = Refused what kinds.Finished
fault_of what kinds.Memory = Memory

-- The state of a copy: until the schema comes its output holds these bytes, if it makes them known, and failed this
-- many times; then there is a writer with this view.
pub data At : Type 0 where
  waiting : Option (List ℕ) → ℕ → At
  writing : writers.WriterView → At

-- the bytes that its output holds
abbrev pub held_at : At → Option (List ℕ)
held_at (waiting held failed) = held
held_at (writing w) = w.contents

-- how many times its output failed
abbrev pub failures_at : At → ℕ
failures_at (waiting held failed) = failed
failures_at (writing w) = w.failures

-- it has a writer
abbrev pub IsWriting : At → Type 0
IsWriting (waiting held failed) = ⊥
IsWriting (writing w) = Unit {0}

-- The writer was started, or its start failed.
abbrev pub BeginsCopy : LimitNumbers → Options → SchemaShape → Option (List ℕ) → ℕ → Result (Unit {0}) ToolFault → At → Type 0
BeginsCopy limits o shape held failed (Ok done) at' = (w : writers.WriterView) × (at' ≡ writing w) × writers.Starts limits o shape held failed w
BeginsCopy limits o shape held failed (Err f) at' =
    (kind : WriteFault) × (held' : Option (List ℕ)) × (failed' : ℕ) × (f ≡ fault_of Start kind) × (at' ≡ waiting held' failed') × writers.StartFails limits o shape held failed kind held' failed'

-- The batch of this number was written, or not.
abbrev pub AddsBatch : writers.WriterView → Table → ℕ → Result (Unit {0}) ToolFault → At → ℕ → Type 0
AddsBatch w t number (Ok done) at' number' = (w' : writers.WriterView) × (at' ≡ writing w') × writers.Accepts w t w' × (number' ≡ number + 1)
AddsBatch w t number (Err f) at' number' =
    ((f ≡ Memory) × (at' ≡ writing w)) ⊎ ((kind : WriteFault) × (w' : writers.WriterView) × (f ≡ fault_of (Batch number) kind) × (at' ≡ writing w') × writers.Writes w t (Err kind) w')

-- A writer's step for a message: it writes the batch messages of a batch, and nothing for other messages.
abbrev pub TakesOne : writers.WriterView → Given → ℕ → Result (Unit {0}) ToolFault → At → ℕ → Type 0
TakesOne w schema_given number answer at' number' = (answer ≡ Ok tt) × (at' ≡ writing w) × (number' ≡ number)
TakesOne w (dictionary_given id) number answer at' number' = (answer ≡ Ok tt) × (at' ≡ writing w) × (number' ≡ number)
TakesOne w (batch_given t) number answer at' number' = AddsBatch w t number answer at' number'
TakesOne w ended number answer at' number' = (answer ≡ Ok tt) × (at' ≡ writing w) × (number' ≡ number)

-- The step for the first message: the writer is started, once there is a schema.
abbrev pub TakesFirst : LimitNumbers → Options → Option SchemaShape → Option (List ℕ) → ℕ → Result (Unit {0}) ToolFault → At → Type 0
TakesFirst limits o None held failed answer at' = (answer ≡ Ok tt) × (at' ≡ waiting held failed)
TakesFirst limits o (Some shape) held failed answer at' = IsNoted shape × BeginsCopy limits o shape held failed answer at'

-- The step for a message, if the stream has this schema after it.
abbrev pub TakesItem : LimitNumbers → Options → Option SchemaShape → Given → At → ℕ → Result (Unit {0}) ToolFault → At → ℕ → Type 0
TakesItem limits o schema given (waiting held failed) number answer at' number' = TakesFirst limits o schema held failed answer at' × (number' ≡ number)
TakesItem limits o schema given (writing w) number answer at' number' = TakesOne w given number answer at' number'

-- The end marker was written, or not; if no schema came there is nothing to end.
abbrev pub Closes : At → Result (Unit {0}) ToolFault → At → Type 0
Closes (waiting held failed) answer at' = (answer ≡ Ok tt) × (at' ≡ waiting held failed)
Closes (writing w) (Ok done) at' = (w' : writers.WriterView) × (at' ≡ writing w') × writers.Ends w w'
Closes (writing w) (Err f) at' = (kind : WriteFault) × (w' : writers.WriterView) × (f ≡ fault_of Finish kind) × (at' ≡ writing w') × writers.Finishes w (Err kind) w'

-- A writer has written the text of these batches to an output that held `first` and had failed `start` times at
-- first.
pub record IsWritingOn (limits : LimitNumbers) (o : Options) (first : Option (List ℕ)) (start : ℕ) (schema : Option SchemaShape) (batches : List Table) (w : writers.WriterView) : Type 0 where
  pub parts : List (List ℕ)
  pub position : writers.IsWriterAt w first false parts batches
  pub shape_is : schema ≡ Some w.shape
  pub limits_are : w.limits ≡ limits
  pub options_are : w.options ≡ o
  pub failures_are : w.failures ≡ start

-- All of these batches, of a stream with this schema, were written.
abbrev pub HasWritten : LimitNumbers → Options → Option (List ℕ) → ℕ → Option SchemaShape → List Table → At → Type 0
HasWritten limits o first start schema batches (waiting held failed) = (schema ≡ None) × (held ≡ first) × (failed ≡ start)
HasWritten limits o first start schema batches (writing w) = IsWritingOn limits o first start schema batches w

-- how a copy began: the limits, how the batches are sent, the bytes that the output held and how many times it had
-- failed
pub record Began : Type 0 where
  pub limits : LimitNumbers
  pub options : Options
  pub first : Option (List ℕ)
  pub failures : ℕ

-- The batches of these messages, this many, were written.
pub record HasCopied (s : Began) (at : At) (number : ℕ) (limits : LimitNumbers) (state : StreamState) (es : List Entry) : Type 0 where
  pub limits_are : limits ≡ s.limits
  pub counted : number ≡ length (tables_of es)
  pub written : HasWritten s.limits s.options s.first s.failures state.schema (tables_of es) at

-- the invariant of a copy that writes within these limits and with these options: both are as at the beginning, and
-- the messages so far are copied
abbrev pub IsCopying : Began → LimitNumbers → Options → At → ℕ → LimitNumbers → StreamState → List Entry → Type 0
IsCopying s own options at number limits state es = (own ≡ s.limits) × (options ≡ s.options) × HasCopied s at number limits state es

-- the properties of its result for the bytes that were read
abbrev pub HasAnswered : Began → At → Result (Unit {0}) ToolFault → List ℕ → Option (List ℕ) → Type 0
HasAnswered s at answer bytes left = Copies s.limits s.options bytes left s.first s.failures answer (held_at at) (failures_at at)
