-- What `show` and `check` write of a stream, as definitions that contracts of other crates can cite.
use Rattle.std.specs.Prelude.{ℕ, List, Option, Result}
use Rattle.arrow_csv.specs.Layouts.{usual}
use Rattle.arrow_types.specs.Limits.{LimitNumbers}
use Rattle.arrowflow_text.specs.declared.report.ReportKind.TheVariants.{Messages, Rows}
use Rattle.arrowflow_input.specs.declared.tool_fault.ToolFault.{ToolFault}
use Rattle.arrowflow_text.specs.Reports.{ReportsInput}

-- the rows of an input's stream are shown: what is written, and how that ends
abbrev pub ShowsInput : LimitNumbers → Option (List ℕ) → Option (List ℕ) → Option (List ℕ) → ℕ → Result (Unit {0}) ToolFault → Option (List ℕ) → ℕ → Type 0
ShowsInput = ReportsInput (Rows usual)

-- its messages are reported, one line each
abbrev pub ReportsWholeInput : LimitNumbers → Option (List ℕ) → Option (List ℕ) → Option (List ℕ) → ℕ → Result (Unit {0}) ToolFault → Option (List ℕ) → ℕ → Type 0
ReportsWholeInput = ReportsInput Messages
