-- A stream that is reported into an output message by message: what the output holds so far, and what the answer
-- says.
use Rattle.std.specs.Prelude.{◌≡◌, ℕ, List, [], Bool, true, false, length, Option, None, Some, Result, OnOk}
use Rattle.std.specs.Io.KnownBytes.{Appends}
use Rattle.arrow_types.specs.Limits.{LimitNumbers}
use Rattle.arrow_types.specs.Notes.{SchemaShape}
use Rattle.arrow_stream_reader.specs.Front.{Entry}
use Rattle.arrow_stream_reader.specs.State.{StreamState}
use Rattle.arrow_stream_reader.specs.Stream.{ReaderView}
use Rattle.arrow_stream_reader.specs.Tables.{tables_of}
use Rattle.arrowflow_text.specs.Chosen.{AreRows, HaveChosen, choice_of, form_of}
use Rattle.arrowflow_text.specs.Columns.{BeginWithout}
use Rattle.arrowflow_text.specs.Reports.{IsEnding, IsTextOf, Reports}
use Rattle.arrowflow_input.specs.Through.{IsThrough}
use Rattle.arrowflow_text.specs.Windows.{AreLeft, IsChosenWithin, IsEnoughOf, ShowsWindow}
use Rattle.arrowflow_text.specs.declared.report.ReportKind.{ReportKind}
use Rattle.arrowflow_text.specs.declared.report_writer.ReportWriter.{ReportWriter}
use Rattle.arrowflow_input.specs.declared.tool_fault.ToolFault.{ToolFault}
use Rattle.arrowflow_text.specs.declared.window.Window.{Window}

-- how the report began: what was to be reported, what the output held, how many times it had failed, and which rows
-- were to be reported, or all
pub record ReportWritingBegan : Type 0 where
  pub report : ReportKind
  pub first : Option (List ℕ)
  pub failures : ℕ
  pub window : Option Window

-- If all rows are to be reported, all still are; else this window is left after these messages, and nothing but rows
-- is written.
abbrev pub LeftAre : Option Window → Option Window → ReportKind → List Entry → Type 0
LeftAre None left report es = left ≡ None
LeftAre (Some w) left report es = AreRows report × AreLeft w left es

-- the text of these messages: of all their rows, or of those in the window
abbrev pub IsReportedBy : Option Window → ReportKind → Option SchemaShape → List Entry → List ℕ → Type 0
IsReportedBy None report schema es text = IsTextOf report schema es text
IsReportedBy (Some w) report schema es text = HaveChosen (choice_of report) schema × IsChosenWithin (form_of report) (choice_of report) w schema (tables_of es) text

-- The text is in the output, and more is to be reported.
pub record HasReported {S : Type 0} (contents : S → Option (List ℕ)) (failed : S → ℕ) (began : ReportWritingBegan) (c : ReportWriter S) (limits : LimitNumbers) (state : StreamState) (es : List Entry) : Type 0 where
  pub report_is : c.report ≡ began.report
  pub text : List ℕ
  pub is : IsReportedBy began.window c.report state.schema es text
  pub wrote : Appends began.first (contents c.output) text
  pub counted : c.number ≡ length (tables_of es)
  pub failures_are : failed c.output ≡ began.failures
  pub left_are : LeftAre began.window c.window c.report es
  pub lacks_none : c.lacks ≡ None

-- what was written of these bytes: all rows, or those in the window
abbrev pub ShowsSo : Option Window → ReportKind → LimitNumbers → List ℕ → Option (List ℕ) → Option (List ℕ) → ℕ → Result (Unit {0}) ToolFault → Option (List ℕ) → ℕ → Type 0
ShowsSo None report = Reports report
ShowsSo (Some w) report = ShowsWindow (form_of report) (choice_of report) w

-- the same, or that nothing was reported because the schema lacks the column at this index of the choice
abbrev pub ShowsOrLacks : Option ℕ → ReportWritingBegan → LimitNumbers → List ℕ → Option (List ℕ) → Result (Unit {0}) ToolFault → Option (List ℕ) → ℕ → Type 0
ShowsOrLacks None began limits bytes left answer after failed' = ShowsSo began.window began.report limits bytes left began.first began.failures answer after failed'
ShowsOrLacks (Some place) began limits bytes left answer after failed' =
    AreRows began.report × BeginWithout (choice_of began.report) limits bytes place × Appends began.first after [] × (failed' ≡ began.failures)

-- the rows in the window are in the output, and no more are to be reported; never if all rows are to be
abbrev pub HasEnoughBy : Option Window → ReportKind → LimitNumbers → List ℕ → Option (List ℕ) → Option (List ℕ) → Type 0
HasEnoughBy None report limits bytes first after = ⊥
HasEnoughBy (Some w) report limits bytes first after = IsEnoughOf (form_of report) (choice_of report) w limits bytes first after

-- what the answer says of the bytes that were read
abbrev pub ReportsSo : {S : Type 0} → (S → Option (List ℕ)) → (S → ℕ) → (S → Type 0) → ReportWritingBegan → ReportWriter S → Result (Unit {0}) ToolFault → ReaderView → List ℕ → Option (List ℕ) → Type 0
ReportsSo contents failed is_passed_on began c answer r bytes left =
    ShowsOrLacks c.lacks began r.limits bytes left answer (contents c.output) (failed c.output) × (c.lacks ≡ None → OnOk answer (is_passed_on c.output))
    × (c.lacks ≡ None → IsThrough (HasEnoughBy began.window began.report r.limits bytes began.first (contents c.output)) answer r bytes)

-- the last text of a stream that ended well: nothing after an end marker
abbrev pub IsLastBy : Bool → ReportKind → ℕ → List ℕ → Type 0
IsLastBy true report place text = text ≡ []
IsLastBy false report place text = IsEnding report place text

-- what is reported, and whether the schema lacks something, is unchanged
abbrev pub IsReportWriterSame : {S : Type 0} → ReportWriter S → ReportWriter S → Type 0
IsReportWriterSame old new = (new.report ≡ old.report) × (new.lacks ≡ old.lacks)

-- the number of batches that came and the rows to be reported are unchanged
abbrev pub AreCountsSame : {S : Type 0} → ReportWriter S → ReportWriter S → Type 0
AreCountsSame old new = (new.number ≡ old.number) × (new.window ≡ old.window)
