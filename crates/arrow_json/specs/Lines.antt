-- Rows as lines of JSON, one value per line (RFC 8259, section 2; the lines are those of JSON Lines).
use Rattle.std.specs.Prelude.{◌≡◌, ◌-◌, ◌++◌, ℕ, List, codes, map, take}
use Rattle.std.specs.List.{flat_map, range_with_len}
use Rattle.json.specs.Json.{Json}
use Rattle.json.specs.Print.{print}
use Rattle.json.specs.Tree.{json_tokens}
use Rattle.arrow_data.specs.Batch.{Table}
use Rattle.arrow_data.specs.Column.{resolved_row_of}
use Rattle.arrow_csv.specs.Texts.{Each}
use Rattle.arrow_json.specs.Values.{IsObjectOf}

-- a row of a batch, by its index
pub record Row : Type 0 where
  pub batch : Table
  pub index : ℕ

-- the row of this index
abbrev pub as_row : Table → ℕ → Row
as_row batch i = record { batch = batch; index = i }

-- the rows from `start` up to `end` of a batch
abbrev pub rows_between : Table → ℕ → ℕ → List Row
rows_between batch start end = map (as_row batch) (range_with_len start (end - start))

-- the rows of batches, in their order
abbrev pub rows_of : List Table → List Row
rows_of batches = flat_map (λ (batch : Table). rows_between batch 0 batch.rows) batches

-- the JSON of a row: an object with a member for each column, in the order of the schema
abbrev pub IsRowJson : Row → Json → Type 0
IsRowJson row json = IsObjectOf row.batch.schema.fields (resolved_row_of row.batch.columns row.index) json

-- the text of a value
abbrev pub json_text : Json → List ℕ
json_text json = print (json_tokens json)

-- the line of a value, with its line feed
abbrev pub line_of : Json → List ℕ
line_of json = json_text json ++ codes "\n"

-- the lines of these rows
abbrev pub AreLines : List Row → List ℕ → Type 0
AreLines rows text = (js : List Json) × Each IsRowJson rows js × (text ≡ flat_map line_of js)

-- the lines of some number of the first of these rows, possibly all
abbrev pub AreFirstLines : List Row → List ℕ → Type 0
AreFirstLines rows text = (count : ℕ) × AreLines (take count rows) text

-- the line of a row was appended to a text
abbrev pub AddsLine : Row → List ℕ → List ℕ → Type 0
AddsLine row old new = (json : Json) × IsRowJson row json × (new ≡ old ++ line_of json)
