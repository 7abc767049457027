-- The records of a schema and of rows (RFC 4180, with line feeds; the quoting is that of the crate `csv` by default).
use Rattle.std.specs.Prelude.{◌≡◌, ◌<◌, ◌^◌, ◌+◌, ◌-◌, ◌++◌, ℕ, List, [], ◌∷◌, codes, Option, None, Some, refl, ⊤}
use Rattle.std.specs.Borrow.{Bor}
use Rattle.std.specs.Coded.{Coded, code_by, coded×, coded_ℕ}
use Rattle.std.specs.Fmt.{decimal}
use Rattle.std.specs.List.{flat_map, range_with_len}
use Rattle.csv.specs.Writing.{default_writer, fields_text, row_body, row_text}
use Rattle.arrow_types.specs.Field.{FieldTree, none, more}
use Rattle.arrow_types.specs.Notes.{SchemaShape}
use Rattle.arrow_data.specs.Batch.{Table, table_code}
use Rattle.arrow_data.specs.Column.{Column}
use Rattle.arrow_layout.specs.PlainValue.{value_at}
use Rattle.arrow_csv.specs.Layouts.{Form, first_field, form_code}
use Rattle.arrow_csv.specs.Texts.{Each, IsText}

-- one record of these fields, with its line feed
abbrev pub record_of : List (List ℕ) → List ℕ
record_of fields = row_text default_writer fields

-- the names of the columns, in their order
abbrev pub names : FieldTree → List (List ℕ)
names none = []
names (more head children rest) = head.name ∷ names rest

-- the first record: the word `batch`, if records have numbers, and the names of the columns
abbrev pub header_record : Form → FieldTree → List ℕ
header_record form schema = record_of (first_field form.numbered (codes "batch") ++ names schema)

-- texts of the columns' values in slot i, indices looked up; a null has the given text
abbrev pub AreColumnTexts : List ℕ → ℕ → List Column → List (List ℕ) → Type 0
AreColumnTexts null i columns texts = Each (λ (c : Column) text. IsText null c.data_type (value_at c.resolved i) text) columns texts

-- the records of rows whose values have these texts, after the first fields that are given
abbrev pub rows_text : List (List ℕ) → List (List (List ℕ)) → List ℕ
rows_text first rows = flat_map (λ texts. record_of (first ++ texts)) rows

-- records of `count` rows of these columns from `start` on
abbrev pub AreRows : List (List ℕ) → List ℕ → List Column → ℕ → ℕ → List ℕ → Type 0
AreRows first null columns start count text =
    (rows : List (List (List ℕ))) × Each (λ i texts. AreColumnTexts null i columns texts) (range_with_len start count) rows × (text ≡ rows_text first rows)

-- records of the rows from `start` up to `end` of the batch of this number
abbrev pub AreBatchRows : Form → ℕ → Table → ℕ → ℕ → List ℕ → Type 0
AreBatchRows form number batch start end text = AreRows (first_field form.numbered (decimal number)) form.null batch.columns start (end - start) text

-- a batch, its number in the stream, and the form of the records of its rows
pub record NumberedBatch : Type 0 where
  pub form : Form
  pub number : ℕ
  pub batch : Table

-- how the logic stores it
abbrev pub numbered_code : Coded NumberedBatch
numbered_code = code_by (Form × (ℕ × Table)) (coded× form_code (coded× coded_ℕ table_code)) (λ r. (r.form, (r.number, r.batch))) (λ p. record { form = p.0; number = p.1.0; batch = p.1.1 }) (λ _. refl)

-- records of batches, the first of which has this number
abbrev pub AreBatches : Form → ℕ → List Table → List ℕ → Type 0
AreBatches form number [] text = text ≡ []
AreBatches form number (batch ∷ batches) text =
    (first : List ℕ) × (others : List ℕ) × AreBatchRows form number batch 0 batch.rows first × AreBatches form (number + 1) batches others × (text ≡ first ++ others)

-- records of a stream: those of its schema and of its batches, none without a schema
abbrev pub IsStreamText : Form → Option SchemaShape → List Table → List ℕ → Type 0
IsStreamText form None batches text = text ≡ []
IsStreamText form (Some shape) batches text = (records : List ℕ) × AreBatches form 0 batches records × (text ≡ header_record form shape.fields ++ records)

-- ---- a row field by field

-- texts of the values of a row, each after a comma
abbrev pub AreFieldsAfter : List ℕ → List Column → ℕ → List ℕ → Type 0
AreFieldsAfter null columns i text = (texts : List (List ℕ)) × AreColumnTexts null i columns texts × (text ≡ fields_text default_writer texts)

-- the same with commas between them
abbrev pub AreFieldsJoined : List ℕ → List Column → ℕ → List ℕ → Type 0
AreFieldsJoined null columns i text = (texts : List (List ℕ)) × AreColumnTexts null i columns texts × (text ≡ row_body default_writer texts)

-- a row of only the fields of its values
abbrev pub IsBareRow : List ℕ → List Column → ℕ → List ℕ → Type 0
IsBareRow null columns i text = (texts : List (List ℕ)) × AreColumnTexts null i columns texts × (text ≡ record_of texts)

-- a row whose first field has this text: texts of the values after it, each after a comma, and a line feed
abbrev pub IsRowPast : List ℕ → List ℕ → List Column → ℕ → List ℕ → Type 0
IsRowPast head null columns i text = (texts : List (List ℕ)) × AreColumnTexts null i columns texts × (text ≡ head ++ (fields_text default_writer texts ++ codes "\n"))

-- a row of either kind
abbrev pub IsRowAfter : Option (Bor (List ℕ)) → List ℕ → List Column → ℕ → List ℕ → Type 0
IsRowAfter None = IsBareRow
IsRowAfter (Some head) = IsRowPast head.now

-- the text of the number that is shown, if one is
abbrev pub IsHead : Option ℕ → Option (Bor (List ℕ)) → Type 0
IsHead None None = ⊤
IsHead None (Some head) = ⊥
IsHead (Some number) None = ⊥
IsHead (Some number) (Some head) = (number < 2 ^ 64) × (head.now ≡ decimal number)

-- the fields that come first, by the number that is shown, if one is
abbrev pub first_of : Option ℕ → List (List ℕ)
first_of None = []
first_of (Some number) = decimal number ∷ []
