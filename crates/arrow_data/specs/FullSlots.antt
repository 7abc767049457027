-- Consecutive slots of which none is null, and the bytes that contain their values.
use Rattle.std.specs.Prelude.{◌≡◌, ◌≤◌, ◌<◌, ℕ, true, false, List, []}
use Rattle.arrow_bits.specs.Numbers.{int_bytes}
use Rattle.arrow_data.specs.Column.{Column}
use Rattle.arrow_layout.specs.Form.{number_width}
use Rattle.arrow_layout.specs.PlainValue.{PlainValue, null_value, bool_value, int_value, binary_value, utf8_value, list_value, struct_value, is_null_value, value_at}
use Rattle.arrow_layout.specs.declared.form.Form.{Form}
use Rattle.arrow_layout.specs.declared.form.Form.TheVariants as forms

-- none of the slots from `start` up to `stop` is null
abbrev pub AreFull : Column → ℕ → ℕ → Type 0
AreFull c start stop = (i : ℕ) → start ≤ i → i < stop → is_null_value (value_at c.raw i) ≡ false

-- slot i is the first null one from `start` on, or it is `stop` and none before it is null
pub record IsFirstNull (c : Column) (start stop i : ℕ) : Type 0 where
  pub low : start ≤ i
  pub high : i ≤ stop
  pub full : AreFull c start i
  pub null : i < stop → is_null_value (value_at c.raw i) ≡ true

-- how many bytes each number of a node of the form takes, 0 if the form has no numbers
abbrev pub width_in : Form → ℕ
width_in forms.Nulls = 0
width_in forms.Bits = 0
width_in (forms.Numbers number) = number_width number
width_in (forms.Bytes width) = 0
width_in (forms.Texts width) = 0
width_in (forms.FixedBytes width) = 0
width_in (forms.Lists list) = 0
width_in forms.Structs = 0

-- The bytes of a value in a node of the form: the bytes of a number, or those of a byte string or a text; none for
-- all other values (Columnar Format, "Fixed-size Primitive Layout", "Variable-size Binary Layout").
abbrev pub value_bytes : Form → PlainValue → List ℕ
value_bytes form null_value = []
value_bytes form (bool_value b) = []
value_bytes form (int_value z) = int_bytes (width_in form) z
value_bytes form (binary_value bytes) = bytes
value_bytes form (utf8_value bytes) = bytes
value_bytes form (list_value items) = []
value_bytes form (struct_value parts) = []
