-- What `check` and `show` write of a stream with bounds.
use Rattle.std.specs.Prelude.{◌≡◌, ℕ, List, Option, None, Result, Ok, Err}
use Rattle.arrow_types.specs.Limits.{LimitNumbers}
use Rattle.arrow_csv.specs.Layouts.{Form, form_by}
use Rattle.arrow_csv.specs.Named.{Choice, choice_by}
use Rattle.arrowflow_text.specs.Columns.{LacksInput, window_of}
use Rattle.arrowflow_input.specs.Quiet.{Checks}
use Rattle.arrowflow_input.specs.Endings.{IsOpenAt}
use Rattle.arrowflow_text.specs.Reports.{Reports}
use Rattle.arrowflow_text.specs.Windows.{IsEnoughOf, IsShortAt, ShowsWindow}
use Rattle.arrowflow_input.specs.Within.{Within}
use Rattle.arrowflow_input.specs.declared.bounds.Excess.{Excess}
use Rattle.arrowflow_input.specs.declared.bounds.WholeLimits.{WholeLimits}
use Rattle.arrowflow_text.specs.declared.columns.ColumnsFault.{ColumnsFault}
use Rattle.arrowflow_text.specs.declared.columns.ColumnsFault.TheVariants.{Lacks, Tool}
use Rattle.arrowflow_text.specs.declared.columns.Selection.{Selection}
use Rattle.arrowflow_text.specs.declared.report.ReportKind.{ReportKind}
use Rattle.arrowflow_input.specs.declared.tool_fault.ToolFault.{ToolFault}
use Rattle.arrowflow_text.specs.declared.window.Window.{Window}

-- a stream is reported that has these bounds
abbrev pub ReportsWithin : ReportKind → WholeLimits → LimitNumbers → Option (List ℕ) → Option (List ℕ) → Option Excess → Option (List ℕ) → ℕ → Result (Unit {0}) ToolFault → Option (List ℕ) → ℕ → Type 0
ReportsWithin report whole limits had left excess before failed answer after failed' =
    Within (IsOpenAt limits) (λ bytes rest end. Reports report limits bytes rest before failed end after failed') (λ bytes. ⊥) whole limits had left excess answer

-- it is checked, and nothing is written
abbrev pub ChecksWithin : WholeLimits → LimitNumbers → Option (List ℕ) → Option (List ℕ) → Option Excess → Result (Unit {0}) ToolFault → Type 0
ChecksWithin whole limits had left excess answer = Within (IsOpenAt limits) (Checks limits) (λ bytes. ⊥) whole limits had left excess answer

-- its rows in a window are shown
abbrev pub ShowsWindowWithin : Form → Choice → Window → WholeLimits → LimitNumbers → Option (List ℕ) → Option (List ℕ) → Option Excess → Option (List ℕ) → ℕ → Result (Unit {0}) ToolFault → Option (List ℕ) → ℕ → Type 0
ShowsWindowWithin form choice w whole limits had left excess before failed answer after failed' =
    Within (IsShortAt w limits) (λ bytes rest end. ShowsWindow form choice w limits bytes rest before failed end after failed') (λ bytes. IsEnoughOf form choice w limits bytes before after) whole limits had left excess answer

-- the rows that a selection has are shown, with its columns, which the schema may lack
abbrev pub ShowsWithin : Selection → WholeLimits → LimitNumbers → Option (List ℕ) → Option (List ℕ) → Option Excess → Option (List ℕ) → ℕ → Result (Unit {0}) ColumnsFault → Option (List ℕ) → ℕ → Type 0
ShowsWithin s whole limits had left excess before failed (Ok done) after failed' =
    ShowsWindowWithin (form_by s.layout) (choice_by s.layout.columns) (window_of s) whole limits had left excess before failed (Ok done) after failed'
ShowsWithin s whole limits had left excess before failed (Err (Tool fault)) after failed' =
    ShowsWindowWithin (form_by s.layout) (choice_by s.layout.columns) (window_of s) whole limits had left excess before failed (Err fault) after failed'
ShowsWithin s whole limits had left excess before failed (Err (Lacks place)) after failed' =
    LacksInput (choice_by s.layout.columns) limits had left before failed place after failed' × (excess ≡ None)
