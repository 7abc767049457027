-- What is written for a stream whose rows are written as lines of JSON.
use Rattle.std.specs.Prelude.{◌≡◌, ℕ, List, [], Option, Result}
use Rattle.arrow_types.specs.Limits.{LimitNumbers}
use Rattle.arrow_json.specs.Lines.{AreFirstLines, AreLines, rows_of}
use Rattle.arrow_stream_reader.specs.Tables.{tables_of}
use Rattle.arrowflow_input.specs.declared.tool_fault.ToolFault.{ToolFault}
use Rattle.arrowflow_json.specs.Forms.{Form, WritesInput}

-- The lines of all rows, or of the first ones; nothing follows them.
abbrev pub rows_form : Form
rows_form = record {
  Whole = λ schema entries text. AreLines (rows_of (tables_of entries)) text;
  Part = λ schema entries text. AreFirstLines (rows_of (tables_of entries)) text;
  Last = λ e text. text ≡ [];
  Faulty = λ fault text. text ≡ [];
}

-- the rows of an input's stream are written: what is written, and how that ends
abbrev pub ShowsInput : LimitNumbers → Option (List ℕ) → Option (List ℕ) → Option (List ℕ) → ℕ → Result (Unit {0}) ToolFault → Option (List ℕ) → ℕ → Type 0
ShowsInput = WritesInput rows_form
