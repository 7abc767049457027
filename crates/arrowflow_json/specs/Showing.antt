-- Lines on their way to an output: what was written so far, and what the result says. Only the crate's private
-- clauses cite these.
use Rattle.std.specs.Prelude.{◌≡◌, ℕ, List, [], length, Bool, true, false, Option, OnOk, Result, Ok, Err}
use Rattle.std.specs.Io.KnownBytes.{Appends}
use Rattle.arrow_types.specs.Limits.{LimitNumbers}
use Rattle.arrow_json.specs.Lines.{AreFirstLines, AreLines, Row}
use Rattle.arrow_stream_reader.specs.Front.{Entry}
use Rattle.arrow_stream_reader.specs.State.{StreamState}
use Rattle.arrow_stream_reader.specs.Stream.{ReaderView}
use Rattle.arrow_stream_reader.specs.Tables.{tables_of}
use Rattle.arrowflow_input.specs.Endings.{SendsSome, SendsText}
use Rattle.arrowflow_input.specs.declared.tool_fault.ToolFault.{ToolFault}
use Rattle.arrowflow_input.specs.declared.tool_fault.ToolFault.TheVariants.{Input, Output, Stream, Refused, Memory}
use Rattle.arrowflow_json.specs.Fields.{name_by}
use Rattle.arrowflow_json.specs.Forms.{Form, Writes}
use Rattle.arrowflow_json.specs.Messages.{end_line, fault_line, messages_form}
use Rattle.arrowflow_json.specs.Shows.{rows_form}
use Rattle.arrowflow_json.specs.declared.message_lines.MessageLines.{MessageLines}
use Rattle.arrowflow_json.specs.declared.row_lines.RowLines.{RowLines}

-- the lines of these rows were sent: all of them; or with a fault those of the first rows, or a prefix of those
abbrev pub SendsLines : List Row → Option (List ℕ) → ℕ → Result (Unit {0}) ToolFault → Option (List ℕ) → ℕ → Type 0
SendsLines rows before failed (Ok done) after failed' = SendsSome (AreLines rows) before failed (Ok done) after failed'
SendsLines rows before failed (Err fault) after failed' = SendsSome (AreFirstLines rows) before failed (Err fault) after failed'

-- the start of the writing: what the output had, and how many times it had failed
pub record WritingBegan : Type 0 where
  pub first : Option (List ℕ)
  pub failures : ℕ

-- the lines of these messages were written
pub record HaveWritten (form : Form) (began : WritingBegan) (held : Option (List ℕ)) (failed : ℕ) (state : StreamState) (es : List Entry) : Type 0 where
  pub text : List ℕ
  pub are : form.Whole state.schema es text
  pub wrote : Appends began.first held text
  pub failures_are : failed ≡ began.failures

-- what the result says about the bytes that were read; after a good end this holds for the output
abbrev pub WritesSo : Form → WritingBegan → Option (List ℕ) → ℕ → Type 0 → Result (Unit {0}) ToolFault → ReaderView → List ℕ → Option (List ℕ) → Type 0
WritesSo form began held failed passed answer r bytes left =
    Writes form r.limits bytes left began.first began.failures answer held failed × OnOk answer passed

-- ---- rows

-- the lines of the rows of these messages were written
abbrev pub HaveShown : {S : Type 0} → (S → Option (List ℕ)) → (S → ℕ) → WritingBegan → RowLines S → LimitNumbers → StreamState → List Entry → Type 0
HaveShown contents failed began c limits state es = HaveWritten rows_form began (contents c.output) (failed c.output) state es

-- what the result says
abbrev pub ShowsSo : {S : Type 0} → (S → Option (List ℕ)) → (S → ℕ) → (S → Type 0) → WritingBegan → RowLines S → Result (Unit {0}) ToolFault → ReaderView → List ℕ → Option (List ℕ) → Type 0
ShowsSo contents failed is_passed_on began c = WritesSo rows_form began (contents c.output) (failed c.output) (is_passed_on c.output)

-- ---- messages

-- the lines of messages without that of a fault
abbrev pub quiet_form : Option (List ℕ) → Form
quiet_form file = record {
  Whole = (messages_form file).Whole;
  Part = (messages_form file).Part;
  Last = (messages_form file).Last;
  Faulty = λ fault text. text ≡ [];
}

-- the start of the checking: the same, and the name of the file
pub record CheckingBegan : Type 0 where
  pub file : Option (List ℕ)
  pub writing : WritingBegan

-- the lines of these messages were written
pub record HaveChecked {S : Type 0} (contents : S → Option (List ℕ)) (failed : S → ℕ) (began : CheckingBegan) (c : MessageLines S) (limits : LimitNumbers) (state : StreamState) (es : List Entry) : Type 0 where
  pub file_is : name_by c.file ≡ began.file
  pub counted : c.number ≡ length (tables_of es)
  pub written : HaveWritten (quiet_form began.file) began.writing (contents c.output) (failed c.output) state es

-- what the result says
abbrev pub ChecksSo : {S : Type 0} → (S → Option (List ℕ)) → (S → ℕ) → (S → Type 0) → CheckingBegan → MessageLines S → Result (Unit {0}) ToolFault → ReaderView → List ℕ → Option (List ℕ) → Type 0
ChecksSo contents failed is_passed_on began c = WritesSo (quiet_form began.file) began.writing (contents c.output) (failed c.output) (is_passed_on c.output)

-- the last line of a stream that ended well at this offset: none after an end marker, which has its own line
abbrev pub IsLastBy : Option (List ℕ) → Bool → ℕ → List ℕ → Type 0
IsLastBy file true place text = text ≡ []
IsLastBy file false place text = text ≡ end_line file place

-- The result for a stream that was checked, and what the output has then, if the result without the line of a fault
-- was this one: the line was sent, or not completely.
abbrev pub AddsFault : Option (List ℕ) → Result (Unit {0}) ToolFault → Option (List ℕ) → ℕ → Result (Unit {0}) ToolFault → Option (List ℕ) → ℕ → Type 0
AddsFault file (Err (Stream fault)) held failed (Err (Stream other)) held' failed' = (other ≡ fault) × SendsText held failed (fault_line file fault) (Ok tt) held' failed'
AddsFault file (Err (Stream fault)) held failed (Err Output) held' failed' = SendsText held failed (fault_line file fault) (Err Output) held' failed'
AddsFault file (Err (Stream fault)) held failed (Err Memory) held' failed' = SendsText held failed (fault_line file fault) (Err Memory) held' failed'
AddsFault file (Err (Stream fault)) held failed (Err (Input number)) held' failed' = ⊥
AddsFault file (Err (Stream fault)) held failed (Err (Refused what kind)) held' failed' = ⊥
AddsFault file (Err (Stream fault)) held failed (Ok done) held' failed' = ⊥
AddsFault file (Err (Input number)) held failed answer held' failed' = (answer ≡ Err (Input number)) × (held' ≡ held) × (failed' ≡ failed)
AddsFault file (Err Output) held failed answer held' failed' = (answer ≡ Err Output) × (held' ≡ held) × (failed' ≡ failed)
AddsFault file (Err Memory) held failed answer held' failed' = (answer ≡ Err Memory) × (held' ≡ held) × (failed' ≡ failed)
AddsFault file (Err (Refused what kind)) held failed answer held' failed' = (answer ≡ Err (Refused what kind)) × (held' ≡ held) × (failed' ≡ failed)
AddsFault file (Ok done) held failed answer held' failed' = (answer ≡ Ok done) × (held' ≡ held) × (failed' ≡ failed)
