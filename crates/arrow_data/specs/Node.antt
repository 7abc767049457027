-- What the ranges of a node represent, and what is known of them in every array.
use Rattle.std.specs.Prelude.{◌≡◌, ◌≤◌, ℕ, ℤ, List, [], ◌∷◌, map, length, slice_index_or, Option, None, Some}
use Rattle.std.specs.List.{AllByRecursion}
use Rattle.arrow_bits.specs.Numbers.{IsIntWidth}
use Rattle.arrow_types.specs.Field.{TypeShape}
use Rattle.arrow_types.specs.View.{type_view}
use Rattle.arrow_types.specs.declared.field.Encoding.{Encoding}
use Rattle.arrow_layout.specs.Form.{HasFieldsOf, form_of, node_form, number_width, has_sign}
use Rattle.arrow_layout.specs.PlainValue.{PlainValue, null_value}
use Rattle.arrow_data.specs.Column.{Column, ValueList, AreOf, IsColumn, IsValueList, listed_of, counts_of, slots_of}
use Rattle.arrow_layout.specs.ByteRanges.{bytes_of, IsInside, AreBytes}
use Rattle.arrow_layout.specs.Slots.{slots, bool_slot, int_slot, fixed_slot, binary_slot, utf8_slot, item_places, list_slot, struct_slot, entry_slot, AreTexts, AreIndices}
use Rattle.arrow_layout.specs.Layout.{HasBools, HasFixed, HasStrings, HasLists, HasStructs}
use Rattle.arrow_layout.specs.declared.byte_range.ByteRange.{ByteRange}
use Rattle.arrow_data.specs.declared.buffers.Bools.{Bools}
use Rattle.arrow_data.specs.declared.buffers.Fixed.{Fixed}
use Rattle.arrow_data.specs.declared.buffers.Ints.{Ints}
use Rattle.arrow_data.specs.declared.buffers.Strings.{Strings}
use Rattle.arrow_data.specs.declared.array.Ranges.{Ranges}
use Rattle.arrow_layout.specs.declared.form.Form.{Form}
use Rattle.arrow_layout.specs.declared.form.Form.TheVariants as forms
use Rattle.arrow_layout.specs.declared.form.ListForm.{ListForm}
use Rattle.arrow_layout.specs.declared.form.ListForm.TheVariants as lists
use Rattle.arrow_data.specs.declared.array.Ranges.TheVariants as ranges
use Rattle.arrow_data.specs.declared.array.Array.TheInside.{Inside}

-- the truth value of a slot, from the ranges of the body
abbrev pub bool_at : List ℕ → Bools → ℕ → PlainValue
bool_at body b j = bool_slot (bytes_of body b.validity) (bytes_of body b.values) j

-- the number of a slot
abbrev pub int_at : List ℕ → Ints → ℕ → PlainValue
int_at body n j = int_slot n.width n.signed (bytes_of body n.validity) (bytes_of body n.values) j

-- the byte string of a slot
abbrev pub binary_at : List ℕ → Strings → ℕ → PlainValue
binary_at body s j = binary_slot s.width (bytes_of body s.validity) (bytes_of body s.offsets) (bytes_of body s.bytes) j

-- the text of a slot
abbrev pub utf8_at : List ℕ → Strings → ℕ → PlainValue
utf8_at body s j = utf8_slot s.width (bytes_of body s.validity) (bytes_of body s.offsets) (bytes_of body s.bytes) j

-- the bytes of a slot of fixed width
abbrev pub fixed_at : List ℕ → Fixed → ℕ → PlainValue
fixed_at body f j = fixed_slot f.width (bytes_of body f.validity) (bytes_of body f.values) j

-- the value that the index of a slot refers to
abbrev pub entry_in : List ℕ → Ints → List PlainValue → ℕ → PlainValue
entry_in body n values j = entry_slot n.width n.signed (bytes_of body n.validity) (bytes_of body n.values) values j

-- where the validity of the slots lies, None if every slot is null
abbrev pub validity_in : Ranges → Option ByteRange
validity_in ranges.Nulls = None
validity_in (ranges.Bools b) = Some b.validity
validity_in (ranges.Ints n) = Some n.validity
validity_in (ranges.Binaries s) = Some s.validity
validity_in (ranges.Texts s) = Some s.validity
validity_in (ranges.FixedBytes f) = Some f.validity
validity_in (ranges.Lists w v o child) = Some v
validity_in (ranges.Structs v children) = Some v
validity_in (ranges.Indices n d) = Some n.validity

-- the raw value of a slot
abbrev pub raw_slot : List ℕ → Ranges → ℕ → PlainValue
raw_slot body ranges.Nulls j = null_value
raw_slot body (ranges.Bools b) j = bool_at body b j
raw_slot body (ranges.Ints n) j = int_at body n j
raw_slot body (ranges.Binaries s) j = binary_at body s j
raw_slot body (ranges.Texts s) j = utf8_at body s j
raw_slot body (ranges.FixedBytes f) j = fixed_at body f j
raw_slot body (ranges.Lists w v o child) j = list_slot w (bytes_of body v) (bytes_of body o) child.value.raw j
raw_slot body (ranges.Structs v children) j = struct_slot (bytes_of body v) (map (λ (c : Column). c.raw) children.items) j
raw_slot body (ranges.Indices n d) j = int_at body n j

-- the resolved value of a slot
abbrev pub resolved_slot : List ℕ → Ranges → ℕ → PlainValue
resolved_slot body ranges.Nulls j = null_value
resolved_slot body (ranges.Bools b) j = bool_at body b j
resolved_slot body (ranges.Ints n) j = int_at body n j
resolved_slot body (ranges.Binaries s) j = binary_at body s j
resolved_slot body (ranges.Texts s) j = utf8_at body s j
resolved_slot body (ranges.FixedBytes f) j = fixed_at body f j
resolved_slot body (ranges.Lists w v o child) j = list_slot w (bytes_of body v) (bytes_of body o) child.value.resolved j
resolved_slot body (ranges.Structs v children) j = struct_slot (bytes_of body v) (map (λ (c : Column). c.resolved) children.items) j
resolved_slot body (ranges.Indices n d) j = entry_in body n d.value.values j

-- the dictionary of a column with this encoding
abbrev pub listed_by : Option Encoding → ValueList → List (ℤ × ValueList)
listed_by None d = []
listed_by (Some e) d = (e.id, d) ∷ []

-- the dictionaries that a node and the nodes below it refer to
abbrev pub dictionaries_of : Option Encoding → Ranges → List (ℤ × ValueList)
dictionaries_of e (ranges.Lists w v o child) = child.value.dictionaries
dictionaries_of e (ranges.Structs v children) = listed_of children.items
dictionaries_of e (ranges.Indices n d) = listed_by e d.value
dictionaries_of e ranges.Nulls = []
dictionaries_of e (ranges.Bools b) = []
dictionaries_of e (ranges.Ints n) = []
dictionaries_of e (ranges.Binaries s) = []
dictionaries_of e (ranges.Texts s) = []
dictionaries_of e (ranges.FixedBytes f) = []

-- where the items of lists begin and end
abbrev pub offsets_in : ℕ → List ℕ → Ranges → List ℕ
offsets_in len body (ranges.Lists w v o child) = item_places w len (bytes_of body o)
offsets_in len body ranges.Nulls = []
offsets_in len body (ranges.Bools b) = []
offsets_in len body (ranges.Ints n) = []
offsets_in len body (ranges.Binaries s) = []
offsets_in len body (ranges.Texts s) = []
offsets_in len body (ranges.FixedBytes f) = []
offsets_in len body (ranges.Structs v children) = []
offsets_in len body (ranges.Indices n d) = []

-- the slots of the children
abbrev pub below_of : Ranges → List (List PlainValue × List PlainValue)
below_of (ranges.Lists w v o child) = slots_of child.value ∷ []
below_of (ranges.Structs v children) = map slots_of children.items
below_of ranges.Nulls = []
below_of (ranges.Bools b) = []
below_of (ranges.Ints n) = []
below_of (ranges.Binaries s) = []
below_of (ranges.Texts s) = []
below_of (ranges.FixedBytes f) = []
below_of (ranges.Indices n d) = []

-- the ranges hold a truth value for each slot
pub record AreBools (len : ℕ) (body : List ℕ) (b : Bools) : Type 0 where
  pub validity : IsInside body b.validity
  pub values : IsInside body b.values
  pub laid : HasBools len (bytes_of body b.validity) (bytes_of body b.values)

-- the ranges hold a number of the width for each slot
pub record AreInts (len : ℕ) (body : List ℕ) (n : Ints) : Type 0 where
  pub whole : IsIntWidth n.width n.signed
  pub validity : IsInside body n.validity
  pub values : IsInside body n.values
  pub laid : HasFixed len n.width (bytes_of body n.validity) (bytes_of body n.values)

-- the ranges hold a range of the bytes for each slot
pub record AreStrings (len : ℕ) (body : List ℕ) (s : Strings) : Type 0 where
  pub validity : IsInside body s.validity
  pub offsets : IsInside body s.offsets
  pub bytes : IsInside body s.bytes
  pub laid : HasStrings s.width len (bytes_of body s.validity) (bytes_of body s.offsets) (bytes_of body s.bytes)

-- the ranges hold as many bytes as the width for each slot
pub record AreFixed (len : ℕ) (body : List ℕ) (f : Fixed) : Type 0 where
  pub validity : IsInside body f.validity
  pub values : IsInside body f.values
  pub laid : HasFixed len f.width (bytes_of body f.validity) (bytes_of body f.values)

-- the ranges hold a range of the child's slots for each slot, and the child is of the type's one field
pub record AreLists (list : ListForm) (len : ℕ) (t : TypeShape) (body : List ℕ) (v o : ByteRange) (child : Column) : Type 0 where
  pub validity : IsInside body v
  pub offsets : IsInside body o
  pub laid : HasLists list len (bytes_of body v) (bytes_of body o) (length child.raw)
  pub typed : AreOf t.children (child ∷ [])
  pub known : IsColumn child

-- the range holds the validity of each slot, and the children are of the type's fields and no shorter
pub record AreStructs (len : ℕ) (t : TypeShape) (body : List ℕ) (v : ByteRange) (children : List Column) : Type 0 where
  pub validity : IsInside body v
  pub laid : HasStructs len (bytes_of body v) (counts_of children)
  pub typed : AreOf t.children children
  pub known : AllByRecursion IsColumn children

-- the numbers are of the width and the sign of the form
abbrev pub IsFormat : Form → Ints → Type 0
IsFormat forms.Nulls n = ⊥
IsFormat forms.Bits n = ⊥
IsFormat (forms.Numbers number) n = (n.width ≡ number_width number) × (n.signed ≡ has_sign number)
IsFormat (forms.Bytes width) n = ⊥
IsFormat (forms.Texts width) n = ⊥
IsFormat (forms.FixedBytes width) n = ⊥
IsFormat (forms.Lists list) n = ⊥
IsFormat forms.Structs n = ⊥

-- the ranges hold an index for each slot; each valid index has a value in a dictionary of the type
pub record AreEntries (len : ℕ) (t : TypeShape) (e : Encoding) (body : List ℕ) (n : Ints) (d : ValueList) : Type 0 where
  pub format : IsFormat (node_form t.tag (Some e)) n
  pub ints : AreInts len body n
  pub indices : AreIndices len n.width n.signed (bytes_of body n.validity) (bytes_of body n.values) (length d.values)
  pub typed : d.data_type ≡ t
  pub known : IsValueList d

-- indices into a dictionary; the column has an encoding
abbrev pub AreEntriesBy : Option Encoding → ℕ → TypeShape → List ℕ → Ints → ValueList → Type 0
AreEntriesBy None len t body n d = ⊥
AreEntriesBy (Some e) len t body n d = AreEntries len t e body n d

-- the ranges are those of a node of this type and encoding
abbrev pub AreRanges : ℕ → TypeShape → Option Encoding → List ℕ → Ranges → Type 0
AreRanges len t e body ranges.Nulls = (e ≡ None) × (form_of t.tag ≡ forms.Nulls)
AreRanges len t e body (ranges.Bools b) = (e ≡ None) × (form_of t.tag ≡ forms.Bits) × AreBools len body b
AreRanges len t e body (ranges.Ints n) = (e ≡ None) × IsFormat (form_of t.tag) n × AreInts len body n
AreRanges len t e body (ranges.Binaries s) = (e ≡ None) × (form_of t.tag ≡ forms.Bytes s.width) × AreStrings len body s
AreRanges len t e body (ranges.Texts s) = (e ≡ None) × (form_of t.tag ≡ forms.Texts s.width) × AreStrings len body s × AreTexts s.width len (bytes_of body s.validity) (bytes_of body s.offsets) (bytes_of body s.bytes)
AreRanges len t e body (ranges.FixedBytes f) = (e ≡ None) × (form_of t.tag ≡ forms.FixedBytes f.width) × AreFixed len body f
AreRanges len t e body (ranges.Lists w v o child) = (e ≡ None) × (form_of t.tag ≡ forms.Lists w) × AreLists w len t body v o child.value
AreRanges len t e body (ranges.Structs v children) = (e ≡ None) × (form_of t.tag ≡ forms.Structs) × AreStructs len t body v children.items
AreRanges len t e body (ranges.Indices n d) = AreEntriesBy e len t body n d.value

-- the column of a node with these ranges
abbrev pub column_by : TypeShape → Option Encoding → ℕ → List ℕ → Ranges → Column
column_by t e len body r = record {
  data_type = t;
  encoding = e;
  raw = slots len (raw_slot body r);
  resolved = slots len (resolved_slot body r);
  dictionaries = dictionaries_of e r;
  offsets = offsets_in len body r;
  below = below_of r;
}

-- the column that an array represents
abbrev pub column_of : Inside → Column
column_of a = column_by (type_view a.data_type.value) a.encoding a.len a.body a.ranges

-- the fields below a type are those that its form requires
abbrev pub HasOwnFields : TypeShape → Type 0
HasOwnFields t = HasFieldsOf (form_of t.tag) t.children

-- where the offsets of a node of lists lie: in its second buffer, or nowhere if none are stored
abbrev pub list_range : ListForm → List ByteRange → ByteRange
list_range (lists.Offsets width) ranges = slice_index_or ranges 1 (record { start = 0; end = 0 })
list_range (lists.Fixed size) ranges = record { start = 0; end = 0 }

-- what is known of every array: a signed 32-bit number can count its slots, and its ranges, in a body of bytes, are
-- of its type
abbrev pub IsArray : Inside → Type 0
IsArray a = (a.len ≤ 2147483647) × AreRanges a.len (type_view a.data_type.value) a.encoding a.body a.ranges × AreBytes a.body × HasOwnFields (type_view a.data_type.value)
