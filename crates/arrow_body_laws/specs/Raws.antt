-- Raw values of columns, and their content.
use Rattle.std.specs.Prelude.{◌≡◌, ◌≤◌, ℕ, ℤ, pos, Bool, false, List, [], ◌∷◌, length, map, replicate, ⊤}
use Rattle.std.specs.List.{AllByRecursion, flat_map, range_with_len, sum_by}
use Rattle.arrow_types.specs.Field.{FieldTree, none, more, width}
use Rattle.arrow_layout.specs.Fits.{HoldsBinary, HoldsInt, HoldsUtf8}
use Rattle.arrow_layout.specs.Form.{HoldsList, greatest_offset, node_form}
use Rattle.arrow_layout.specs.PlainValue.{PlainValue, null_value, bool_value, int_value, binary_value, utf8_value, list_value, struct_value, field_value, list_of_values}
use Rattle.arrow_layout.specs.declared.form.Form.{Form}
use Rattle.arrow_layout.specs.declared.form.Form.TheVariants as forms
use Rattle.arrow_layout.specs.declared.form.ListForm.{ListForm}
use Rattle.arrow_layout.specs.declared.form.ListForm.TheVariants as lists
use Rattle.arrow_body_reader.specs.Taken.{IfFlattened}

-- the truth value of a slot, false under a null
abbrev pub truth_in : PlainValue → Bool
truth_in (bool_value b) = b
truth_in null_value = false
truth_in (int_value z) = false
truth_in (binary_value bytes) = false
truth_in (utf8_value bytes) = false
truth_in (list_value items) = false
truth_in (struct_value parts) = false

-- its number, 0 under a null
abbrev pub number_in : PlainValue → ℤ
number_in (int_value z) = z
number_in null_value = pos 0
number_in (bool_value b) = pos 0
number_in (binary_value bytes) = pos 0
number_in (utf8_value bytes) = pos 0
number_in (list_value items) = pos 0
number_in (struct_value parts) = pos 0

-- its bytes, none under a null
abbrev pub bytes_in_value : PlainValue → List ℕ
bytes_in_value (binary_value bytes) = bytes
bytes_in_value (utf8_value bytes) = bytes
bytes_in_value null_value = []
bytes_in_value (bool_value b) = []
bytes_in_value (int_value z) = []
bytes_in_value (list_value items) = []
bytes_in_value (struct_value parts) = []

-- its bytes, of a width, zero bytes under a null
abbrev pub fixed_in : ℕ → PlainValue → List ℕ
fixed_in width (binary_value bytes) = bytes
fixed_in width null_value = replicate width 0
fixed_in width (bool_value b) = replicate width 0
fixed_in width (int_value z) = replicate width 0
fixed_in width (utf8_value bytes) = replicate width 0
fixed_in width (list_value items) = replicate width 0
fixed_in width (struct_value parts) = replicate width 0

-- its items, that many nulls under a null
abbrev pub items_in_value : ℕ → PlainValue → List PlainValue
items_in_value n (list_value items) = list_of_values items
items_in_value n null_value = replicate n null_value
items_in_value n (bool_value b) = replicate n null_value
items_in_value n (int_value z) = replicate n null_value
items_in_value n (binary_value bytes) = replicate n null_value
items_in_value n (utf8_value bytes) = replicate n null_value
items_in_value n (struct_value parts) = replicate n null_value

-- how many nulls the child gets under a null list: none, or as many as each list has items (Columnar Format,
-- "Fixed-Size List Layout")
abbrev pub nulls_under : ListForm → ℕ
nulls_under (lists.Offsets width) = 0
nulls_under (lists.Fixed size) = size

-- The raw values of the columns below a node of the form. For lists these are the items of each slot after those of
-- the one before; for structs value k of each slot, null under a null. (Columnar Format, "Variable-size List Layout",
-- "Struct Layout")
abbrev pub raws_below : Form → FieldTree → List PlainValue → List (List PlainValue)
raws_below forms.Nulls children vs = []
raws_below forms.Bits children vs = []
raws_below (forms.Numbers number) children vs = []
raws_below (forms.Bytes w) children vs = []
raws_below (forms.Texts w) children vs = []
raws_below (forms.FixedBytes w) children vs = []
raws_below (forms.Lists list) children vs = flat_map (items_in_value (nulls_under list)) vs ∷ []
raws_below forms.Structs children vs = map (λ k. map (field_value k) vs) (range_with_len 0 (width children))

-- A slot of a node of the form, with these fields below it, may hold the value; every slot may hold null. For a list
-- its length is checked, and nothing else of the values below a list or a struct.
abbrev pub IsOwn : Form → FieldTree → PlainValue → Type 0
IsOwn form children null_value = ⊤
IsOwn form children (bool_value b) = form ≡ forms.Bits
IsOwn form children (int_value z) = HoldsInt form z
IsOwn form children (binary_value bytes) = HoldsBinary form bytes
IsOwn form children (utf8_value bytes) = HoldsUtf8 form bytes
IsOwn form children (list_value items) = HoldsList form (length (list_of_values items))
IsOwn form children (struct_value parts) = (form ≡ forms.Structs) × (length (list_of_values parts) ≡ width children)

-- there are raw values for each of the fields, on every level, and each is one that its node may hold
abbrev pub AreRaws : FieldTree → List (List PlainValue) → Type 0
AreRaws none [] = ⊤
AreRaws none (vs ∷ raws) = ⊥
AreRaws (more head children rest) [] = ⊥
AreRaws (more head children rest) (vs ∷ raws) =
    AllByRecursion (IsOwn (node_form head.tag head.encoding) children) vs
    × IfFlattened head.encoding (AreRaws children (raws_below (node_form head.tag head.encoding) children vs))
    × AreRaws rest raws

-- the last offset of lists, 0 if none are stored
abbrev pub last_item : ListForm → List PlainValue → ℕ
last_item (lists.Offsets width) vs = sum_by (λ v. length (items_in_value 0 v)) vs
last_item (lists.Fixed size) vs = 0

-- the last offset of a node of the form, 0 for one that has none
abbrev pub last_offset : Form → List PlainValue → ℕ
last_offset forms.Nulls vs = 0
last_offset forms.Bits vs = 0
last_offset (forms.Numbers number) vs = 0
last_offset (forms.Bytes w) vs = sum_by (λ v. length (bytes_in_value v)) vs
last_offset (forms.Texts w) vs = sum_by (λ v. length (bytes_in_value v)) vs
last_offset (forms.FixedBytes w) vs = 0
last_offset (forms.Lists list) vs = last_item list vs
last_offset forms.Structs vs = 0

-- the greatest value that the offsets of lists can have
abbrev pub item_limit : ListForm → ℕ
item_limit (lists.Offsets width) = greatest_offset width
item_limit (lists.Fixed size) = 0

-- the greatest value that the offsets of a node of the form can have
abbrev pub offset_limit : Form → ℕ
offset_limit forms.Nulls = 0
offset_limit forms.Bits = 0
offset_limit (forms.Numbers number) = 0
offset_limit (forms.Bytes w) = greatest_offset w
offset_limit (forms.Texts w) = greatest_offset w
offset_limit (forms.FixedBytes w) = 0
offset_limit (forms.Lists list) = item_limit list
offset_limit forms.Structs = 0

-- the number of slots of a node fits a signed 32-bit number, and its offsets fit numbers of their width
pub record IsSmall (form : Form) (vs : List PlainValue) : Type 0 where
  pub few : length vs ≤ 2147483647
  pub near : last_offset form vs ≤ offset_limit form

-- the same for all fields, on every level
abbrev pub AreSmall : FieldTree → List (List PlainValue) → Type 0
AreSmall none raws = ⊤
AreSmall (more head children rest) [] = ⊤
AreSmall (more head children rest) (vs ∷ raws) =
    IsSmall (node_form head.tag head.encoding) vs
    × AreSmall children (raws_below (node_form head.tag head.encoding) children vs)
    × AreSmall rest raws
