-- A stream with bounds, message by message: what a call says of it.
use Rattle.std.proofs.Common.{◌≡◌, ℕ, List, [], Option, None, Some, Result, Ok, Err, ◌⊎◌, refl, sym, ◌∙◌, subst}
use Rattle.std.specs.Prelude.{IfSome, OnOk}
use Rattle.arrow_types.specs.Limits.{LimitNumbers}
use Rattle.arrow_stream_reader.specs.Stream.{ReaderView}
use Rattle.arrowflow_text.specs.Chosen.{AreRows, choice_of, form_of}
use Rattle.arrowflow_text.specs.Columns.{LacksInput}
use Rattle.arrowflow_input.specs.Consumer.{OfInput, OfMessages}
use Rattle.arrowflow_input.specs.Driver.{CallForMore}
use Rattle.arrowflow_input.specs.Endings.{IsOpenAt}
use Rattle.arrowflow_text.specs.Reports.{Reports}
use Rattle.arrowflow_text.specs.ReportWriting.{HasReported, ReportWritingBegan, ReportsSo}
use Rattle.arrowflow_text.specs.Windows.{IsEnoughOf, IsShortAt, ShowsWindow}
use Rattle.arrowflow_input.specs.Within.{DrivenWithin, DrivesWithin}
use Rattle.arrowflow_text.specs.WithinCalls.{ReportsWithin, ShowsWindowWithin}
use Rattle.arrowflow_input.specs.declared.bounds.Excess.{Excess}
use Rattle.arrowflow_input.specs.declared.bounds.WholeLimits.{WholeLimits}
use Rattle.arrowflow_text.specs.declared.report_writer.ReportWriter.{ReportWriter}
use Rattle.arrowflow_input.specs.declared.tool_fault.ToolFault.{ToolFault}
use Rattle.arrowflow_input.specs.declared.tool_fault.ToolFault.TheVariants.{Input}
use Rattle.arrowflow_text.specs.declared.window.Window.{Window}
use Rattle.arrowflow_text.proofs.Messages.{all_in, call_has, call_lacks, call_passed, more_open, more_short, nothing_reported, window_in}
use Rattle.arrowflow_input.proofs.Through.{call_within}

module _ {S : Type 0} (contents : S → Option (List ℕ)) (failed : S → ℕ) (is_passed_on : S → Type 0) (writer : ReportWriter S) (number : writer.number ≡ 0) (has : writer.lacks ≡ None) (limited : (writer.window ≡ None) ⊎ AreRows writer.report)
    (reported : ReportWriter S) (whole : WholeLimits) (limits : LimitNumbers) (had left : Option (List ℕ)) (r : ReaderView) (same : r.limits ≡ limits) (answer : Result (Unit {0}) ToolFault) (excess : Option Excess)
    (driven : DrivesWithin (HasReported contents failed) (ReportsSo contents failed is_passed_on) writer whole limits had left excess answer reported r) where
  abbrev began : ReportWritingBegan
  began = record { report = writer.report; first = contents writer.output; failures = failed writer.output; window = writer.window }

  abbrev keeps : OfMessages
  keeps = HasReported contents failed began reported

  abbrev answers : OfInput
  answers = ReportsSo contents failed is_passed_on began reported

  abbrev calls : List ℕ → Type 0
  calls = CallForMore (HasReported contents failed began) limits

  given : DrivenWithin keeps answers calls whole limits had left excess answer r
  given = driven began (nothing_reported contents failed is_passed_on began writer limits refl refl refl refl number has limited)

  -- everything was reported
  pub reported_all : reported.lacks ≡ None → writer.window ≡ None → ReportsWithin writer.report whole limits had left excess (contents writer.output) (failed writer.output) answer (contents reported.output) (failed reported.output)
  reported_all none all =
      call_within keeps answers calls (IsOpenAt limits) (more_open contents failed is_passed_on began limits)
      (λ bytes rest end. Reports writer.report limits bytes rest (contents writer.output) (failed writer.output) end (contents reported.output) (failed reported.output)) (λ bytes. ⊥) whole limits had left
      (λ bytes at so end d. all_in contents failed is_passed_on began reported none limits left bytes at so end d all) r same answer excess given

  -- the rows in the window were reported
  pub reported_window : reported.lacks ≡ None → (n : Window) → writer.window ≡ Some n
      → ShowsWindowWithin (form_of writer.report) (choice_of writer.report) n whole limits had left excess (contents writer.output) (failed writer.output) answer (contents reported.output) (failed reported.output)
  reported_window none n some =
      call_within keeps answers calls (IsShortAt n limits) (more_short contents failed is_passed_on began n some limits)
      (λ bytes rest end. ShowsWindow (form_of writer.report) (choice_of writer.report) n limits bytes rest (contents writer.output) (failed writer.output) end (contents reported.output) (failed reported.output))
      (λ bytes. IsEnoughOf (form_of writer.report) (choice_of writer.report) n limits bytes (contents writer.output) (contents reported.output)) whole limits had left
      (λ bytes at so end d. window_in contents failed is_passed_on began reported none limits left bytes at so end d n some) r same answer excess given

  -- the schema lacks a column
  pub reported_lacks : (place : ℕ) → reported.lacks ≡ Some place → LacksInput (choice_of writer.report) limits had left (contents writer.output) (failed writer.output) place (contents reported.output) (failed reported.output) × (excess ≡ None)
  reported_lacks place some = by excess given
    where
      by : (e : Option Excess) → DrivenWithin keeps answers calls whole limits had left e answer r → LacksInput (choice_of writer.report) limits had left (contents writer.output) (failed writer.output) place (contents reported.output) (failed reported.output) × (e ≡ None)
      by None d = (call_lacks contents failed is_passed_on began reported limits had left r same answer (d.0, d.1, d.2, d.3) place some, refl)
      by (Some x) d = let q = sym d.4.fails.given.kept.lacks_none ∙ some in absurd (cc)

  -- if all columns are reported, none is lacking
  pub reported_has : choice_of writer.report ≡ None → reported.lacks ≡ None
  reported_has all = by excess given
    where
      by : (e : Option Excess) → DrivenWithin keeps answers calls whole limits had left e answer r → reported.lacks ≡ None
      by None d = call_has contents failed is_passed_on began reported limits had left r same answer (d.0, d.1, d.2, d.3) all
      by (Some x) d = d.4.fails.given.kept.lacks_none

  -- if no column was lacking, the output has passed on what it accepted
  pub reported_passed : reported.lacks ≡ None → IfSome excess (λ x. answer ≡ Err (Input 0)) → OnOk answer (is_passed_on reported.output)
  reported_passed none stops = by excess given stops
    where
      by : (e : Option Excess) → DrivenWithin keeps answers calls whole limits had left e answer r → IfSome e (λ x. answer ≡ Err (Input 0)) → OnOk answer (is_passed_on reported.output)
      by None d stop = call_passed contents failed is_passed_on began reported limits had left r same answer (d.0, d.1, d.2, d.3) none
      by (Some x) d stop = subst (λ a. OnOk a (is_passed_on reported.output)) (sym stop) tt
