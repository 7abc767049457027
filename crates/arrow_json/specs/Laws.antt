-- Properties of the lines of JSON.
use Rattle.std.specs.Prelude.{◌≡◌, ◌==◌, ℕ, Bool, false, List, Some}
use Rattle.std.specs.List.{list_any}
use Rattle.json.specs.Json.{Json, document}
use Rattle.arrow_data.specs.Batch.{IsTable, Table}
use Rattle.arrow_json.specs.Lines.{IsRowJson, as_row, json_text}

-- A law: the text of a row is one JSON value, and parses as the JSON of the row (RFC 8259, section 2).
abbrev pub RowReadsBack : Type 0
RowReadsBack = (batch : Table) (i : ℕ) (json : Json) → IsTable batch → IsRowJson (as_row batch i) json → document (json_text json) ≡ Some json

-- whether a text has a line feed
abbrev pub has_line_feed : List ℕ → Bool
has_line_feed text = list_any (λ b. b == 10) text

-- A law: no line feed is in the text of a row. So only line feeds separate the lines of rows.
abbrev pub RowIsOneLine : Type 0
RowIsOneLine = (batch : Table) (i : ℕ) (json : Json) → IsTable batch → IsRowJson (as_row batch i) json → has_line_feed (json_text json) ≡ false
