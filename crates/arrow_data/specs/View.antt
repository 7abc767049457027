-- What the buffers of a column hold (Columnar Format, "Physical Memory Layout").
use Rattle.std.specs.Prelude.{◌≡◌, ◌<◌, ℕ, pos, Bool, List, length, map, None, is_some, IsTrue}
use Rattle.arrow_bits.specs.Numbers.{IsIntWidth}
use Rattle.arrow_layout.specs.declared.form.NumberForm.{NumberForm}
use Rattle.arrow_layout.specs.PlainValue.{PlainValue, int_value, null_value, value_at}
use Rattle.arrow_data.specs.Column.{Column, HasChild, HasDictionary, HasFields, ValueList}
use Rattle.arrow_layout.specs.Form.{has_sign, node_form, number_width}
use Rattle.arrow_layout.specs.Layout.{HasBools, HasFixed, HasLists, HasStrings}
use Rattle.arrow_layout.specs.Slots.{AreIndices, AreTexts, HasBits, binary_slot, bool_slot, entry_slot, fixed_slot, int_slot, item_places, list_slot, struct_slot, utf8_slot}
use Rattle.arrow_layout.specs.declared.form.Form.{Form}
use Rattle.arrow_layout.specs.declared.form.Form.TheVariants as forms
use Rattle.arrow_layout.specs.declared.form.ListForm.{ListForm}
use Rattle.arrow_layout.specs.declared.form.OffsetWidth.{OffsetWidth}
use Rattle.arrow_data.specs.declared.view.Buffers.{Buffers}
use Rattle.arrow_data.specs.declared.view.Buffers.TheVariants as buffers

-- the raw values of the column's slots are these
abbrev pub AreRaw : Column → (ℕ → PlainValue) → Type 0
AreRaw c slot = (j : ℕ) → j < length c.raw → value_at c.raw j ≡ slot j

-- the values of the column's slots, indices looked up, are these
abbrev pub AreValues : Column → (ℕ → PlainValue) → Type 0
AreValues c slot = (j : ℕ) → j < length c.raw → value_at c.resolved j ≡ slot j

-- slot i holds no index, and so has no value either, or the column is not dictionary-encoded
abbrev pub HasNoEntry : Column → ℕ → Type 0
HasNoEntry c i = IsTrue (is_some c.encoding) → (value_at c.raw i ≡ null_value) × (value_at c.resolved i ≡ null_value)

-- the column is dictionary-encoded, slot i holds index n, and its value is value n of the column's dictionary
abbrev pub RefersTo : Column → ℕ → ℕ → Type 0
RefersTo c i n =
    IsTrue (is_some c.encoding) × (value_at c.raw i ≡ int_value (pos n))
    × ((d : ValueList) → HasDictionary c d → (n < length d.values) × (value_at c.resolved i ≡ value_at d.values n))

-- the column's slots hold values of the form, and no indices
abbrev pub IsOf : Form → Column → Type 0
IsOf form c = (c.encoding ≡ None) × (node_form c.data_type.tag c.encoding ≡ form)

-- the column's slots hold numbers of that many bytes, with or without a sign: in a dictionary-encoded column, its
-- indices
pub record IsOfNumbers (c : Column) (width : ℕ) (signed : Bool) : Type 0 where
  pub number : NumberForm
  pub form : node_form c.data_type.tag c.encoding ≡ forms.Numbers number
  pub bytes : width ≡ number_width number
  pub sign : signed ≡ has_sign number
  pub whole : IsIntWidth width signed

-- no value in any slot
abbrev pub HoldNulls : Column → Type 0
HoldNulls c = IsOf forms.Nulls c × AreRaw c (λ j. null_value) × AreValues c (λ j. null_value)

-- truth values
abbrev pub HoldBools : Column → List ℕ → List ℕ → Type 0
HoldBools c validity values = IsOf forms.Bits c × HasBools (length c.raw) validity values × AreRaw c (bool_slot validity values) × AreValues c (bool_slot validity values)

-- numbers
abbrev pub HoldInts : Column → ℕ → Bool → List ℕ → List ℕ → Type 0
HoldInts c width signed validity values =
    (c.encoding ≡ None) × IsOfNumbers c width signed × HasFixed (length c.raw) width validity values
    × AreRaw c (int_slot width signed validity values) × AreValues c (int_slot width signed validity values)

-- byte strings
abbrev pub HoldBinaries : Column → OffsetWidth → List ℕ → List ℕ → List ℕ → Type 0
HoldBinaries c width validity offsets bytes =
    IsOf (forms.Bytes width) c × HasStrings width (length c.raw) validity offsets bytes
    × AreRaw c (binary_slot width validity offsets bytes) × AreValues c (binary_slot width validity offsets bytes)

-- texts
abbrev pub HoldTexts : Column → OffsetWidth → List ℕ → List ℕ → List ℕ → Type 0
HoldTexts c width validity offsets bytes =
    IsOf (forms.Texts width) c × HasStrings width (length c.raw) validity offsets bytes × AreTexts width (length c.raw) validity offsets bytes
    × AreRaw c (utf8_slot width validity offsets bytes) × AreValues c (utf8_slot width validity offsets bytes)

-- byte strings of one length
abbrev pub HoldFixed : Column → ℕ → List ℕ → List ℕ → Type 0
HoldFixed c width validity values =
    IsOf (forms.FixedBytes width) c × HasFixed (length c.raw) width validity values
    × AreRaw c (fixed_slot width validity values) × AreValues c (fixed_slot width validity values)

-- lists, with the child that contains their items; the offsets are those of the column, including those of slots
-- without a value
abbrev pub HoldLists : Column → ListForm → List ℕ → List ℕ → Column → Type 0
HoldLists c list validity offsets child =
    IsOf (forms.Lists list) c × HasLists list (length c.raw) validity offsets (length child.raw) × HasChild c child
    × (c.offsets ≡ item_places list (length c.raw) offsets)
    × AreRaw c (list_slot list validity offsets child.raw) × AreValues c (list_slot list validity offsets child.resolved)

-- structs, with the children, which have a slot for each slot of the structs
abbrev pub HoldStructs : Column → List ℕ → List Column → Type 0
HoldStructs c validity children =
    IsOf forms.Structs c × HasBits (length c.raw) validity × HasFields c children
    × AreRaw c (struct_slot validity (map (λ (x : Column). x.raw) children)) × AreValues c (struct_slot validity (map (λ (x : Column). x.resolved) children))

-- indices into a dictionary
abbrev pub HoldIndices : Column → ℕ → Bool → List ℕ → List ℕ → ValueList → Type 0
HoldIndices c width signed validity values d =
    IsOfNumbers c width signed × HasFixed (length c.raw) width validity values × AreIndices (length c.raw) width signed validity values (length d.values)
    × IsTrue (is_some c.encoding) × HasDictionary c d × AreRaw c (int_slot width signed validity values)
    × AreValues c (entry_slot width signed validity values d.values)

-- the buffers are those of the column
abbrev pub AreBuffersOf : Column → Buffers → Type 0
AreBuffersOf c buffers.Nulls = HoldNulls c
AreBuffersOf c (buffers.Bools validity values) = HoldBools c validity.now values.now
AreBuffersOf c (buffers.Numbers of) = HoldInts c of.width of.signed of.validity.now of.values.now
AreBuffersOf c (buffers.Binaries of) = HoldBinaries c of.width of.validity.now of.offsets.now of.bytes.now
AreBuffersOf c (buffers.Texts of) = HoldTexts c of.width of.validity.now of.offsets.now of.bytes.now
AreBuffersOf c (buffers.FixedBytes width validity values) = HoldFixed c width validity.now values.now
AreBuffersOf c (buffers.Lists list validity offsets child) = HoldLists c list validity.now offsets.now child.now
AreBuffersOf c (buffers.Structs validity children) = HoldStructs c validity.now children.now
AreBuffersOf c (buffers.Indices of dictionary) = HoldIndices c of.width of.signed of.validity.now of.values.now dictionary.now
