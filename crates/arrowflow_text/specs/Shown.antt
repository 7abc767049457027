-- What messages add to the text of a stream's rows.
use Rattle.std.specs.Prelude.{◌≡◌, ℕ, List, [], ◌∷◌, ◌++◌, length, Option, None, Some}
use Rattle.arrow_types.specs.Limits.{LimitNumbers}
use Rattle.arrow_types.specs.Notes.{SchemaShape}
use Rattle.arrow_csv.specs.Layouts.{Form}
use Rattle.arrow_csv.specs.Records.{AreBatchRows, IsStreamText, header_record}
use Rattle.arrow_stream_reader.specs.declared.reader.Verdict.TheVariants.{Open}
use Rattle.arrow_stream_reader.specs.Front.{Entry, Snapshot, FrontOf}
use Rattle.arrow_stream_reader.specs.State.{Given, schema_given, dictionary_given, batch_given, ended}
use Rattle.arrow_stream_reader.specs.Tables.{tables_of}

-- what a schema adds to the text
abbrev pub header_in : Form → Option SchemaShape → List ℕ
header_in form None = []
header_in form (Some shape) = header_record form shape.fields

-- what a message adds to the text after this number of batches
abbrev pub IsTextIn : Form → Option SchemaShape → ℕ → Given → List ℕ → Type 0
IsTextIn form schema number schema_given text = text ≡ header_in form schema
IsTextIn form schema number (dictionary_given id) text = text ≡ []
IsTextIn form schema number (batch_given batch) text = AreBatchRows form number batch 0 batch.rows text
IsTextIn form schema number ended text = text ≡ []

-- a text of the complete messages at the start of a stream
abbrev pub IsTextAt : Form → List Entry → Snapshot → List ℕ → Type 0
IsTextAt form entries e text = IsStreamText form e.state.schema (tables_of entries) text

-- A law: with one more message at the start of a stream, a text from before, followed by what the message adds, is a
-- text of all messages.
abbrev pub TextGrows : Type 0
TextGrows = (form : Form) (limits : LimitNumbers) (bytes more : List ℕ) (entries : List Entry) (x : Entry) (e f : Snapshot) (text added : List ℕ)
    → FrontOf limits bytes entries e → e.verdict ≡ Open → FrontOf limits (bytes ++ more) (entries ++ x ∷ []) f
    → IsTextAt form entries e text → IsTextIn form f.state.schema (length (tables_of entries)) x.given added → IsTextAt form (entries ++ x ∷ []) f (text ++ added)
