-- What is reported of a column: its buffers, and where they lie (Columnar Format, "Physical Memory Layout").
use Rattle.std.specs.Prelude.{◌≡◌, ◌⊎◌, ◌≤◌, ℕ, Bool, true, false, if◌then◌else◌, List, [], ◌∷◌, length, Option, Some, None, MatchOption, slice_get}
use Rattle.arrow_data.specs.Batch.{Table}
use Rattle.arrow_data.specs.Column.{Column, HasChild, HasDictionary, HasField, HasValue, IsList, ValueList, struct_fields, type_of_field}
use Rattle.arrow_layout.specs.Form.{offset_bytes}
use Rattle.arrow_data.specs.View.{AreBuffersOf}
use Rattle.arrow_types.specs.DataType.{TypeId, floating_point}
use Rattle.arrow_layout.specs.declared.form.ListForm.{ListForm}
use Rattle.arrow_layout.specs.declared.form.ListForm.TheVariants as lists
use Rattle.arrow_data.specs.declared.view.Buffers.{Buffers}
use Rattle.arrow_data.specs.declared.view.Buffers.TheVariants as buffers
use Rattle.arrow_layout.specs.declared.slot_buffers.NumberBuffers.{NumberBuffers}
use Rattle.arrow_layout.specs.declared.slot_buffers.StringBuffers.{StringBuffers}
use Rattle.arrowflow_c.specs.declared.columns.ColumnC.{ColumnC}
use Rattle.arrowflow_calls.specs.declared.reading.Reading.{Reading}

-- a column as its buffers, each by its bytes
pub record PlainColumn : Type 0 where
  pub layout : ℕ
  pub has_sign : Bool
  pub width : ℕ
  pub slots : ℕ
  pub children : ℕ
  pub entries : ℕ
  pub slot : ℕ
  pub validity : List ℕ
  pub offsets : List ℕ
  pub values : List ℕ

-- the contents of a struct, with the bytes at its addresses
abbrev pub plain_of : ColumnC → PlainColumn
plain_of c = record {
  layout = c.layout;
  has_sign = c.has_sign;
  width = c.width;
  slots = c.slots;
  children = c.children;
  entries = c.entries;
  slot = c.slot;
  validity = c.validity.now;
  offsets = c.offsets.now;
  values = c.values.now;
}

-- a column of a layout, without buffers
abbrev pub bare_column : ℕ → ℕ → ℕ → PlainColumn
bare_column layout slots place = record { layout = layout; has_sign = false; width = 0; slots = slots; children = 0; entries = 0; slot = place; validity = []; offsets = []; values = [] }

-- no column
abbrev pub no_column : PlainColumn
no_column = bare_column 0 0 0

-- values of `width` bytes each, or of a bit
abbrev pub with_values : PlainColumn → ℕ → List ℕ → List ℕ → PlainColumn
with_values c width validity values = record c { width = width; validity = validity; values = values }

-- numbers
abbrev pub with_numbers : PlainColumn → NumberBuffers → PlainColumn
with_numbers c of = record c { has_sign = of.signed; width = of.width; validity = of.validity.now; values = of.values.now }

-- byte strings
abbrev pub with_strings : PlainColumn → StringBuffers → PlainColumn
with_strings c of = record c { width = offset_bytes of.width; validity = of.validity.now; offsets = of.offsets.now; values = of.bytes.now }

-- whether numbers of a type are floating-point ones
abbrev pub is_float : TypeId → Bool
is_float (floating_point _) = true
is_float _ = false

-- lists with their offsets, or fixed-size lists, whose size is the width
abbrev pub with_lists : PlainColumn → ListForm → PlainColumn
with_lists c (lists.Offsets width) = record c { layout = 7; width = offset_bytes width; children = 1 }
with_lists c (lists.Fixed size) = record c { layout = 11; width = size; children = 1 }

-- the plain column of buffers of a type, with `slots` slots, of which slot `place` is the one in question
abbrev pub column_of : TypeId → ℕ → ℕ → Buffers → PlainColumn
column_of tag slots place buffers.Nulls = bare_column 1 slots place
column_of tag slots place (buffers.Bools validity values) = with_values (bare_column 2 slots place) 0 validity.now values.now
column_of tag slots place (buffers.Numbers of) = with_numbers (bare_column (if is_float tag then 10 else 3) slots place) of
column_of tag slots place (buffers.Binaries of) = with_strings (bare_column 4 slots place) of
column_of tag slots place (buffers.Texts of) = with_strings (bare_column 5 slots place) of
column_of tag slots place (buffers.FixedBytes width validity values) = with_values (bare_column 6 slots place) width validity.now values.now
column_of tag slots place (buffers.Lists list validity offsets child) = with_lists (record (bare_column 0 slots place) { validity = validity.now; offsets = offsets.now }) list
column_of tag slots place (buffers.Structs validity children) = record (bare_column 8 slots place) { children = length children.now; validity = validity.now }
column_of tag slots place (buffers.Indices of dictionary) = record (with_numbers (bare_column 9 slots place) of) { entries = length dictionary.now.values }

-- The reported buffers are those of the column.
pub record IsColumnOf (c : Column) (place : ℕ) (stated : ColumnC) : Type 0 where
  pub buffers : Buffers
  pub own : AreBuffersOf c buffers
  pub same : plain_of stated ≡ column_of c.data_type.tag (length c.raw) place buffers

-- A column has another one below it under a number: the child of lists under 0, the column of a field under the
-- field's number, and under n the column that holds value n of a dictionary, with the slot of that value.
abbrev pub IsBelow : Column → ℕ → Column → ℕ → Type 0
IsBelow c n child place =
    (HasChild c child × (n ≡ 0) × (place ≡ 0)) ⊎ ((HasField c n child × (place ≡ 0)) ⊎ ((d : ValueList) × HasDictionary c d × HasValue d n child place))

-- a column has nothing below it under a number
pub record HasNothing (c : Column) (n : ℕ) : Type 0 where
  pub child : n ≡ 0 → IsList c → ⊥
  pub field : type_of_field (struct_fields c) n ≡ None
  pub entry : (d : ValueList) → HasDictionary c d → length d.values ≤ n

-- The reported column is the one that a path leads to, or none if the path leads nowhere.
abbrev pub ShowsBelow : Column → ℕ → List ℕ → ColumnC → Type 0
ShowsBelow c place [] stated = IsColumnOf c place stated
ShowsBelow c place (n ∷ path) stated =
    ((child : Column) × (at : ℕ) × IsBelow c n child at × ShowsBelow child at path stated) ⊎ (HasNothing c n × (plain_of stated ≡ no_column))

-- the same for a path whose first number is that of a column of a batch
abbrev pub ColumnAt : Option Table → List ℕ → ColumnC → Type 0
ColumnAt None path stated = plain_of stated ≡ no_column
ColumnAt (Some t) [] stated = plain_of stated ≡ no_column
ColumnAt (Some t) (k ∷ path) stated = MatchOption (slice_get t.columns k) (plain_of stated ≡ no_column) (λ c. ShowsBelow c 0 path stated)

-- the same for the last batch of a reader, if there is a reader
abbrev pub ColumnIf : Option Reading → List ℕ → ColumnC → Type 0
ColumnIf None path stated = plain_of stated ≡ no_column
ColumnIf (Some r) path stated = ColumnAt r.batch path stated
