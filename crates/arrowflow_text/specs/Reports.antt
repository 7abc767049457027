-- What is written of a stream, and how that ends (Columnar Format, "IPC Streaming Format").
use Rattle.std.specs.Prelude.{◌≡◌, ℕ, ◌+◌, ◌⊎◌, List, [], ◌++◌, length, Option, Result, Ok, Err}
use Rattle.std.specs.Io.KnownBytes.{Appends, Consumes, IsAtEnd}
use Rattle.arrow_types.specs.Limits.{LimitNumbers}
use Rattle.arrow_types.specs.Notes.{SchemaShape}
use Rattle.arrow_csv.specs.Layouts.{form_by}
use Rattle.arrow_csv.specs.Named.{choice_by, chosen_schema}
use Rattle.arrow_sink.specs.Sinks.{AcceptsBeginning}
use Rattle.arrow_stream_reader.specs.declared.fault.Fault.{Fault}
use Rattle.arrow_stream_reader.specs.declared.kind.Rejection.{Rejection}
use Rattle.arrow_stream_reader.specs.declared.reader.Verdict.{Verdict}
use Rattle.arrow_stream_reader.specs.declared.reader.Verdict.TheVariants.{Done, Bad, Open}
use Rattle.arrow_stream_reader.specs.Front.{Entry, Snapshot, FrontOf}
use Rattle.arrow_stream_reader.specs.Kind.{kind_of}
use Rattle.arrow_stream_reader.specs.State.{Given}
use Rattle.arrow_stream_reader.specs.Stream.{ReaderView, IsReaderAt, ended_so}
use Rattle.arrowflow_input.specs.Reads.{IsReadWhile}
use Rattle.arrow_stream_reader.specs.Tables.{tables_of}
use Rattle.arrowflow_text.specs.Chosen.{HaveChosen, IsChosenAt, IsChosenText, chosen_given}
use Rattle.arrowflow_text.specs.Lines.{AreLines, IsLine, end_line}
use Rattle.arrowflow_text.specs.Shown.{IsTextIn}
use Rattle.arrowflow_text.specs.declared.report.ReportKind.{ReportKind}
use Rattle.arrowflow_text.specs.declared.report.ReportKind.TheVariants.{Messages, Rows}
use Rattle.arrowflow_input.specs.declared.tool_fault.ToolFault.{ToolFault}
use Rattle.arrowflow_input.specs.declared.tool_fault.ToolFault.TheVariants.{Input, Output, Stream, Refused, Memory}
use Rattle.arrowflow_input.specs.Endings.{EndsBadly, EndsWell, IsOpenAt}

-- a text of a stream's messages by the schema that they left: their lines, or records of their rows; there are no
-- such records if the schema lacks a column that is chosen
abbrev pub IsTextOf : ReportKind → Option SchemaShape → List Entry → List ℕ → Type 0
IsTextOf Messages schema entries text = AreLines schema 0 0 entries text
IsTextOf (Rows layout) schema entries text = HaveChosen (choice_by layout.columns) schema × IsChosenText (form_by layout) (choice_by layout.columns) schema (tables_of entries) text

-- what a message that begins at this offset, after this number of batches, adds to the text
abbrev pub IsAdded : ReportKind → Option SchemaShape → ℕ → ℕ → Given → List ℕ → Type 0
IsAdded Messages schema place number given text = IsLine schema place number given text
IsAdded (Rows layout) schema place number given text =
    IsChosenAt (choice_by layout.columns) schema given × IsTextIn (form_by layout) (chosen_schema (choice_by layout.columns) schema) number (chosen_given (choice_by layout.columns) given) text

-- the text after that of the messages if the input ends at this offset: a line, or nothing after rows
abbrev pub IsEnding : ReportKind → ℕ → List ℕ → Type 0
IsEnding Messages place text = text ≡ end_line place
IsEnding (Rows layout) place text = text ≡ []

-- the last text of a call that ends well: nothing after an end marker
abbrev pub IsLast : ReportKind → Verdict → ℕ → List ℕ → Type 0
IsLast report Done place text = text ≡ []
IsLast report Open place text = IsEnding report place text
IsLast report (Bad kind) place text = ⊥

-- A reader has read the bytes t, and their text is in the output after what it held at first; this number of batches
-- came.
pub record IsReported (report : ReportKind) (first held : Option (List ℕ)) (number : ℕ) (r : ReaderView) (t : List ℕ) (es : List Entry) : Type 0 where
  pub text : List ℕ
  pub position : IsReaderAt r t es
  pub is : IsTextOf report r.at.state.schema es text
  pub wrote : Appends first held text
  pub counted : number ≡ length (tables_of es)

-- The reader has read a prefix of the bytes after t, and a prefix of the text of all messages is in the output.
pub record IsCutOff (report : ReportKind) (first held : Option (List ℕ)) (r : ReaderView) (t bytes : List ℕ) : Type 0 where
  pub taken : List ℕ
  pub rest : List ℕ
  pub whole : taken ++ rest ≡ bytes
  pub entries : List Entry
  pub text : List ℕ
  pub position : IsReaderAt r (t ++ taken) entries
  pub is : IsTextOf report r.at.state.schema entries text
  pub wrote : AcceptsBeginning first held text

-- the text of the complete messages at the start of these bytes was written
pub record IsWritten (report : ReportKind) (limits : LimitNumbers) (bytes : List ℕ) (e : Snapshot) (before after : Option (List ℕ)) : Type 0 where
  pub entries : List Entry
  pub front : FrontOf limits bytes entries e
  pub text : List ℕ
  pub is : IsTextOf report e.state.schema entries text
  pub wrote : Appends before after text

-- the same, with the text that follows it at the end of a call that ends well
pub record IsWrittenWhole (report : ReportKind) (limits : LimitNumbers) (bytes : List ℕ) (e : Snapshot) (before after : Option (List ℕ)) : Type 0 where
  pub entries : List Entry
  pub front : FrontOf limits bytes entries e
  pub text : List ℕ
  pub is : IsTextOf report e.state.schema entries text
  pub last : List ℕ
  pub is_last : IsLast report e.verdict e.place last
  pub wrote : Appends before after (text ++ last)

-- A prefix was written of the text of the complete messages at the start of a prefix of these bytes, and of the text
-- that may follow it if that prefix is all of them.
pub record IsBegun (report : ReportKind) (limits : LimitNumbers) (bytes : List ℕ) (before after : Option (List ℕ)) : Type 0 where
  pub taken : List ℕ
  pub rest : List ℕ
  pub whole : taken ++ rest ≡ bytes
  pub snapshot : Snapshot
  pub entries : List Entry
  pub front : FrontOf limits taken entries snapshot
  pub text : List ℕ
  pub is : IsTextOf report snapshot.state.schema entries text
  pub last : List ℕ
  pub is_last : (last ≡ []) ⊎ ((rest ≡ []) × IsEnding report snapshot.place last)
  pub wrote : AcceptsBeginning before after (text ++ last)

-- What was written, and why the call ended, when these bytes were read of an input of which this is left. `Output` is
-- returned if and only if the output failed, and then it failed once.
abbrev pub Reports : ReportKind → LimitNumbers → List ℕ → Option (List ℕ) → Option (List ℕ) → ℕ → Result (Unit {0}) ToolFault → Option (List ℕ) → ℕ → Type 0
Reports report limits bytes left before failed (Ok done) after failed' =
    (e : Snapshot) × IsWrittenWhole report limits bytes e before after × EndsWell left e × (failed' ≡ failed)
Reports report limits bytes left before failed (Err (Stream fault)) after failed' =
    (e : Snapshot) × IsWritten report limits bytes e before after × EndsBadly left e fault × (failed' ≡ failed)
Reports report limits bytes left before failed (Err (Input number)) after failed' =
    (number ≡ 0) × ((e : Snapshot) × (e.verdict ≡ Open) × IsWritten report limits bytes e before after) × (failed' ≡ failed)
Reports report limits bytes left before failed (Err Output) after failed' =
    IsBegun report limits bytes before after × (failed' ≡ failed + 1)
Reports report limits bytes left before failed (Err Memory) after failed' =
    IsBegun report limits bytes before after × (failed' ≡ failed)
Reports report limits bytes left before failed (Err (Refused what kind)) after failed' = ⊥

-- The same for an input that had these bytes before the call and has these after it; and no piece was read after the
-- one in which the stream is rejected or ends with its marker.
abbrev pub ReportsInput : ReportKind → LimitNumbers → Option (List ℕ) → Option (List ℕ) → Option (List ℕ) → ℕ → Result (Unit {0}) ToolFault → Option (List ℕ) → ℕ → Type 0
ReportsInput report limits had left before failed answer after failed' =
    (bytes : List ℕ) × Consumes had left bytes × IsReadWhile (IsOpenAt limits) bytes
    × Reports report limits bytes left before failed answer after failed'
