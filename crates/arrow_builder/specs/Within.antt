-- The limits of a column: of its slots (Columnar Format, "Array lengths"), and of its bytes of data ("Variable-size
-- Binary Layout"; the limit of 2^40 is this project's own). Every node has at most 2,147,483,647 slots; one with
-- 32-bit offsets has at most as many bytes, and one with wider offsets or with byte strings of a fixed width has at
-- most 2^40.
use Rattle.std.specs.Prelude.{◌≤◌, ◌+◌, ◌^◌, ℕ, List, [], ◌∷◌, length}
use Rattle.arrow_types.specs.Field.{FieldHeader}
use Rattle.arrow_layout.specs.Form.{node_form}
use Rattle.arrow_layout.specs.PlainValue.{PlainValue, null_value, bool_value, int_value, binary_value, utf8_value, list_value, struct_value}
use Rattle.arrow_layout.specs.declared.form.Form.{Form}
use Rattle.arrow_layout.specs.declared.form.Form.TheVariants as forms
use Rattle.arrow_layout.specs.declared.form.OffsetWidth.{OffsetWidth}
use Rattle.arrow_layout.specs.declared.form.OffsetWidth.TheVariants.{Small, Large}
use Rattle.arrow_builder.specs.Built.{Built}
use Rattle.arrow_builder.specs.Columns.{AllNodes}

-- how many bytes a byte string or a text has, none any other value
abbrev pub value_bytes : PlainValue → ℕ
value_bytes null_value = 0
value_bytes (bool_value b) = 0
value_bytes (int_value z) = 0
value_bytes (binary_value bytes) = length bytes
value_bytes (utf8_value bytes) = length bytes
value_bytes (list_value items) = 0
value_bytes (struct_value parts) = 0

-- How many bytes of data a slot of a node of the form takes: its own for a byte string or a text, the fixed width for
-- byte strings of a fixed width, under a null too. Nothing is counted for other forms: only their slots determine how
-- long their buffers are.
abbrev pub slot_bytes : Form → PlainValue → ℕ
slot_bytes forms.Nulls value = 0
slot_bytes forms.Bits value = 0
slot_bytes (forms.Numbers number) value = 0
slot_bytes (forms.Bytes width) value = value_bytes value
slot_bytes (forms.Texts width) value = value_bytes value
slot_bytes (forms.FixedBytes width) value = width
slot_bytes (forms.Lists list) value = 0
slot_bytes forms.Structs value = 0

-- how many bytes all slots take
abbrev pub data_bytes : Form → List PlainValue → ℕ
data_bytes form [] = 0
data_bytes form (value ∷ values) = slot_bytes form value + data_bytes form values

-- the most bytes of data that offsets of a width can address
abbrev pub most_after : OffsetWidth → ℕ
most_after Small = 2147483647
most_after Large = 2 ^ 40

-- the most bytes of data that a node of the form has
abbrev pub most_bytes : Form → ℕ
most_bytes forms.Nulls = 0
most_bytes forms.Bits = 0
most_bytes (forms.Numbers number) = 0
most_bytes (forms.Bytes width) = most_after width
most_bytes (forms.Texts width) = most_after width
most_bytes (forms.FixedBytes width) = 2 ^ 40
most_bytes (forms.Lists list) = 0
most_bytes forms.Structs = 0

-- a node of the form exceeds no limit with these values
pub record IsShort (form : Form) (raw : List PlainValue) : Type 0 where
  pub few : length raw ≤ 2147483647
  pub near : data_bytes form raw ≤ most_bytes form

-- the same for the column of the field with this head
abbrev pub IsShortNode : FieldHeader → List PlainValue → Type 0
IsShortNode head raw = IsShort (node_form head.tag head.encoding) raw

-- the column exceeds no limit, and none of the columns below it does
abbrev pub IsWithin : Built → Type 0
IsWithin b = AllNodes IsShortNode b.field b.raw
