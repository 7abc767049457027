-- What is returned if columns are asked for, and what is written then.
use Rattle.std.specs.Prelude.{◌≡◌, ℕ, List, [], Option, None, Some, Result, Ok, Err}
use Rattle.std.specs.Io.KnownBytes.{Appends, Consumes}
use Rattle.arrow_types.specs.Limits.{LimitNumbers}
use Rattle.arrow_types.specs.Notes.{SchemaShape}
use Rattle.arrow_csv.specs.Layouts.{form_by}
use Rattle.arrow_csv.specs.Named.{Choice, choice_by}
use Rattle.arrowflow_text.specs.Chosen.{LacksColumn}
use Rattle.arrowflow_input.specs.Reads.{IsReadWhile}
use Rattle.arrowflow_text.specs.SchemaCall.{AreNoMessage, BeginWithSchema}
use Rattle.arrowflow_text.specs.Windows.{ShowsWindowOf}
use Rattle.arrowflow_text.specs.declared.columns.ColumnsFault.{ColumnsFault}
use Rattle.arrowflow_text.specs.declared.columns.ColumnsFault.TheVariants.{Lacks, Tool}
use Rattle.arrowflow_text.specs.declared.columns.Selection.{Selection}
use Rattle.arrowflow_input.specs.declared.tool_fault.ToolFault.{ToolFault}
use Rattle.arrowflow_text.specs.declared.window.Window.{Window}

-- These bytes begin with a schema that lacks the column at this index of the choice, and none before.
abbrev pub BeginWithout : Choice → LimitNumbers → List ℕ → ℕ → Type 0
BeginWithout choice limits bytes place = (shape : SchemaShape) × BeginWithSchema limits bytes shape × LacksColumn choice (Some shape) place

-- The input begins so, nothing was written, and no piece was read after the one in which the schema's message ends.
abbrev pub LacksInput : Choice → LimitNumbers → Option (List ℕ) → Option (List ℕ) → Option (List ℕ) → ℕ → ℕ → Option (List ℕ) → ℕ → Type 0
LacksInput choice limits had left before failed place after failed' =
    (bytes : List ℕ) × Consumes had left bytes × IsReadWhile (AreNoMessage limits) bytes × BeginWithout choice limits bytes place
    × Appends before after [] × (failed' ≡ failed)

-- the window that a selection asks for
abbrev pub window_of : Selection → Window
window_of s = record { batch = s.batch; skip = s.skip; rows = s.rows }

-- the rows of an input's stream that a selection has are shown, with its columns, which the schema may lack
abbrev pub ShowsSelection : Selection → LimitNumbers → Option (List ℕ) → Option (List ℕ) → Option (List ℕ) → ℕ → Result (Unit {0}) ColumnsFault → Option (List ℕ) → ℕ → Type 0
ShowsSelection s limits had left before failed (Ok done) after failed' = ShowsWindowOf (form_by s.layout) (choice_by s.layout.columns) (window_of s) limits had left before failed (Ok done) after failed'
ShowsSelection s limits had left before failed (Err (Tool fault)) after failed' = ShowsWindowOf (form_by s.layout) (choice_by s.layout.columns) (window_of s) limits had left before failed (Err fault) after failed'
ShowsSelection s limits had left before failed (Err (Lacks place)) after failed' = LacksInput (choice_by s.layout.columns) limits had left before failed place after failed'

-- the answer of a call, depending on what the schema was found to lack
abbrev pub answer_by_lack : Option ℕ → Result (Unit {0}) ToolFault → Result (Unit {0}) ColumnsFault
answer_by_lack (Some place) answer = Err (Lacks place)
answer_by_lack None (Ok done) = Ok done
answer_by_lack None (Err fault) = Err (Tool fault)
