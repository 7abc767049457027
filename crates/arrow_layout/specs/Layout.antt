-- When the buffers of a node hold its slots (Columnar Format, "Physical Memory Layout"). A buffer is given by its bytes, a
-- child by the number of its slots.
use Rattle.std.specs.Prelude.{◌≤◌, ◌*◌, ℕ, List, [], length, get_or, ⊤, Option, None, Some}
use Rattle.std.specs.List.{AllByRecursion}
use Rattle.arrow_types.specs.DataType.{TypeId}
use Rattle.arrow_types.specs.declared.field.Encoding.{Encoding}
use Rattle.arrow_layout.specs.Form.{buffers_of, node_form, number_width}
use Rattle.arrow_layout.specs.PlainValue.{PlainValue}
use Rattle.arrow_layout.specs.Slots.{HasBits, HasItemPlaces, HasOffsets, AreTexts, AreIndices, index_width}
use Rattle.arrow_layout.specs.declared.form.Form.{Form}
use Rattle.arrow_layout.specs.declared.form.Form.TheVariants as forms
use Rattle.arrow_layout.specs.declared.form.ListForm.{ListForm}
use Rattle.arrow_layout.specs.declared.form.ListForm.TheVariants as lists
use Rattle.arrow_layout.specs.declared.form.OffsetWidth.{OffsetWidth}

-- a bit for each slot
pub record HasBools (len : ℕ) (validity values : List ℕ) : Type 0 where
  pub bits : HasBits len validity
  pub long : len ≤ 8 * length values

-- `width` bytes for each slot
pub record HasFixed (len width : ℕ) (validity values : List ℕ) : Type 0 where
  pub bits : HasBits len validity
  pub long : width * len ≤ length values

-- a range of the bytes for each slot
pub record HasStrings (width : OffsetWidth) (len : ℕ) (validity offsets bytes : List ℕ) : Type 0 where
  pub bits : HasBits len validity
  pub rising : HasOffsets width len (length bytes) offsets

-- a range of the child's `count` slots for each slot
pub record HasLists (list : ListForm) (len : ℕ) (validity offsets : List ℕ) (count : ℕ) : Type 0 where
  pub bits : HasBits len validity
  pub rising : HasItemPlaces list len count offsets

-- each slot is a slot of every child
pub record HasStructs (len : ℕ) (validity counts : List ℕ) : Type 0 where
  pub bits : HasBits len validity
  pub longer : AllByRecursion (λ count. len ≤ count) counts

-- the bytes of buffer k of a node
abbrev pub buffer : List (List ℕ) → ℕ → List ℕ
buffer buffers k = get_or buffers k []

-- How many buffers a node has (Columnar Format, "Buffer Listing for Each Layout"). A dictionary-encoded one has those of
-- its indices.
abbrev pub buffer_count : TypeId → Option Encoding → ℕ
buffer_count tag e = buffers_of (node_form tag e)

-- the offsets of a node of lists, empty if none are stored
abbrev pub list_offsets : ListForm → List (List ℕ) → List ℕ
list_offsets (lists.Offsets width) b = buffer b 1
list_offsets (lists.Fixed size) b = []

-- how many slots the child of a list has
abbrev pub child_count : List ℕ → ℕ
child_count counts = get_or counts 0 0

-- the buffers and the children of a node of the form hold its slots
abbrev pub HoldsSlots : Form → ℕ → List (List ℕ) → List ℕ → Type 0
HoldsSlots forms.Nulls len b counts = ⊤
HoldsSlots forms.Bits len b counts = HasBools len (buffer b 0) (buffer b 1)
HoldsSlots (forms.Numbers number) len b counts = HasFixed len (number_width number) (buffer b 0) (buffer b 1)
HoldsSlots (forms.Bytes width) len b counts = HasStrings width len (buffer b 0) (buffer b 1) (buffer b 2)
HoldsSlots (forms.Texts width) len b counts = HasStrings width len (buffer b 0) (buffer b 1) (buffer b 2)
HoldsSlots (forms.FixedBytes width) len b counts = HasFixed len width (buffer b 0) (buffer b 1)
HoldsSlots (forms.Lists list) len b counts = HasLists list len (buffer b 0) (list_offsets list b) (child_count counts)
HoldsSlots forms.Structs len b counts = HasStructs len (buffer b 0) counts

-- the buffers and the children of a node hold its slots
abbrev pub IsLaid : TypeId → Option Encoding → ℕ → List (List ℕ) → List ℕ → Type 0
IsLaid tag e len b counts = HoldsSlots (node_form tag e) len b counts

-- the valid slots of a node of texts are UTF-8; no other form requires anything
abbrev pub HoldsTexts : Form → ℕ → List (List ℕ) → Type 0
HoldsTexts forms.Nulls len b = ⊤
HoldsTexts forms.Bits len b = ⊤
HoldsTexts (forms.Numbers number) len b = ⊤
HoldsTexts (forms.Bytes width) len b = ⊤
HoldsTexts (forms.Texts width) len b = AreTexts width len (buffer b 0) (buffer b 1) (buffer b 2)
HoldsTexts (forms.FixedBytes width) len b = ⊤
HoldsTexts (forms.Lists list) len b = ⊤
HoldsTexts forms.Structs len b = ⊤

-- the valid slots of a node of texts are UTF-8; nothing is required of other nodes
abbrev pub IsText : TypeId → Option Encoding → ℕ → List (List ℕ) → Type 0
IsText tag e len b = HoldsTexts (node_form tag e) len b

-- the valid slots of a dictionary-encoded node have their values
abbrev pub IsIndexed : Option Encoding → ℕ → List (List ℕ) → List PlainValue → Type 0
IsIndexed None len b values = ⊤
IsIndexed (Some e) len b values = AreIndices len (index_width e.index) e.index.signed (buffer b 0) (buffer b 1) (length values)
