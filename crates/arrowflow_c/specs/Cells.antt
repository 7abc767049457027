-- What is reported of a single value of a batch (Columnar Format, "Terminology").
use Rattle.std.specs.Float.{float_zero}
use Rattle.std.specs.Prelude.{◌≡◌, ◌^◌, ◌<◌, ◌≤◌, ℕ, ℤ, pos, negsuc, nat_lt, if◌then◌else◌, false, List, length, Option, Some, None, MatchOption, slice_get}
use Rattle.arrow_data.specs.Batch.{Table}
use Rattle.arrow_data.specs.Column.{Column}
use Rattle.arrow_layout.specs.Floats.{bits_in, number_of}
use Rattle.arrow_layout.specs.PlainValue.{PlainValue, value_at, null_value, bool_value, int_value, binary_value, utf8_value, list_value, struct_value}
use Rattle.arrow_data.specs.declared.array.SlotValue.{SlotValue}
use Rattle.arrow_data.specs.declared.array.SlotValue.TheVariants as values
use Rattle.arrow_types.specs.DataType.{TypeId, floating_point}
use Rattle.arrowflow_c.specs.declared.cells.CellC.{CellC}
use Rattle.arrowflow_calls.specs.declared.reading.Reading.{Reading}
use Rattle.arrowflow_calls.specs.Texts.{filled}

-- a cell with only this kind
abbrev pub bare_cell : ℕ → CellC
bare_cell what = record { what = what; truth = false; number = pos 0; large = 0; real = float_zero; size = 0 }

-- no cell
abbrev pub no_cell : CellC
no_cell = bare_cell 8

-- the cell of a number: of a signed 64-bit number, of an unsigned 64-bit number, or of one that takes more bits
abbrev pub number_cell : ℤ → CellC
number_cell (pos n) =
    if nat_lt n (2 ^ 63) then record (bare_cell 2) { number = pos n } else
    (if nat_lt n (2 ^ 64) then record (bare_cell 7) { large = n } else bare_cell 9)
number_cell (negsuc n) = if nat_lt n (2 ^ 63) then record (bare_cell 2) { number = negsuc n } else bare_cell 9

-- the cell of a number by the type of its column: for a floating-point type that of the number that the bits encode
abbrev pub int_cell : TypeId → ℤ → CellC
int_cell (floating_point precision) z = record (bare_cell 10) { real = number_of precision (bits_in z) }
int_cell _ z = number_cell z

-- The value of a type was returned, and as much of a byte string or a text as fits was put into the output buffer.
abbrev pub Gives : TypeId → PlainValue → List ℕ → CellC → List ℕ → Type 0
Gives tag null_value old c new = (c ≡ bare_cell 0) × (new ≡ old)
Gives tag (bool_value b) old c new = (c ≡ record (bare_cell 1) { truth = b }) × (new ≡ old)
Gives tag (int_value z) old c new = (c ≡ int_cell tag z) × (new ≡ old)
Gives tag (binary_value bytes) old c new = (c ≡ record (bare_cell 3) { size = length bytes }) × (new ≡ filled old bytes)
Gives tag (utf8_value bytes) old c new = (c ≡ record (bare_cell 4) { size = length bytes }) × (new ≡ filled old bytes)
Gives tag (list_value items) old c new = (c ≡ bare_cell 5) × (new ≡ old)
Gives tag (struct_value parts) old c new = (c ≡ bare_cell 6) × (new ≡ old)

-- the same for a value as it lies in a batch
abbrev pub GivesShown : TypeId → SlotValue → List ℕ → CellC → List ℕ → Type 0
GivesShown tag values.Null old c new = (c ≡ bare_cell 0) × (new ≡ old)
GivesShown tag (values.Bool b) old c new = (c ≡ record (bare_cell 1) { truth = b }) × (new ≡ old)
GivesShown tag (values.Int z) old c new = (c ≡ int_cell tag z) × (new ≡ old)
GivesShown tag (values.Bytes bytes) old c new = (c ≡ record (bare_cell 3) { size = length bytes.now }) × (new ≡ filled old bytes.now)
GivesShown tag (values.Text text) old c new = (c ≡ record (bare_cell 4) { size = length text.now }) × (new ≡ filled old text.now)
GivesShown tag (values.List start stop child) old c new = (c ≡ bare_cell 5) × (new ≡ old)
GivesShown tag (values.Struct children place) old c new = (c ≡ bare_cell 6) × (new ≡ old)

-- no cell was returned
abbrev pub GivesNone : List ℕ → CellC → List ℕ → Type 0
GivesNone old c new = (c ≡ no_cell) × (new ≡ old)

-- the value of a row of a column was returned, with indices looked up, if there is such a row
pub record InColumn (column : Column) (row : ℕ) (old : List ℕ) (c : CellC) (new : List ℕ) : Type 0 where
  pub inside : row < length column.raw → Gives column.data_type.tag (value_at column.resolved row) old c new
  pub outside : length column.raw ≤ row → GivesNone old c new

-- the value of a row of a column of a batch was returned, if there is such a batch, column and row
abbrev pub CellAt : Option Table → ℕ → ℕ → List ℕ → CellC → List ℕ → Type 0
CellAt None column row old c new = GivesNone old c new
CellAt (Some t) column row old c new = MatchOption (slice_get t.columns column) (GivesNone old c new) (λ values. InColumn values row old c new)

-- the same for the last batch of a reader, if there is a reader, which is unchanged
abbrev pub CellIf : Option Reading → ℕ → ℕ → List ℕ → CellC → List ℕ → Option Reading → Type 0
CellIf None column row old c new after = GivesNone old c new × (after ≡ None)
CellIf (Some r) column row old c new after = CellAt r.batch column row old c new × (after ≡ Some r)
