-- What the buffers of a growing node hold for its first `len` slots: what its form needs, and always a validity
-- bitmap (Columnar Format, "Physical Memory Layout").
use Rattle.std.specs.Prelude.{◌≡◌, ◌≤◌, ◌<◌, ◌+◌, ◌-◌, ◌*◌, ◌^◌, ℕ, List, length, take, ⊤}
use Rattle.std.specs.List.{AllByRecursion}
use Rattle.arrow_layout.specs.Form.{number_width, offset_bytes}
use Rattle.arrow_layout.specs.Layout.{buffer, child_count, list_offsets}
use Rattle.arrow_layout.specs.PlainValue.{PlainValue}
use Rattle.arrow_layout.specs.Slots.{item_place, place_of}
use Rattle.arrow_layout.specs.declared.form.Form.{Form}
use Rattle.arrow_layout.specs.declared.form.Form.TheVariants as forms
use Rattle.arrow_layout.specs.declared.form.ListForm.{ListForm}
use Rattle.arrow_layout.specs.declared.form.ListForm.TheVariants as lists
use Rattle.arrow_layout.specs.declared.form.OffsetWidth.{OffsetWidth}
use Rattle.arrow_builder.specs.Columns.{all_items}

-- there is a validity bit for each slot, and another one for its truth value
pub record KeepsBools (len : ℕ) (validity values : List ℕ) : Type 0 where
  pub bits : len ≤ 8 * length validity
  pub long : len ≤ 8 * length values

-- there is a validity bit for each slot, and `width` bytes
pub record KeepsFixed (len width : ℕ) (validity values : List ℕ) : Type 0 where
  pub bits : len ≤ 8 * length validity
  pub long : width * len ≤ length values

-- the least number that does not fit a signed offset
abbrev pub offset_bound : OffsetWidth → ℕ
offset_bound width = 2 ^ (8 * offset_bytes width - 1)

-- there is a validity bit for each slot, and one offset more than there are slots: the offsets begin at 0, do not
-- decrease, and none is negative as a signed number (Columnar Format, "Variable-size Binary Layout")
pub record KeepsRanges (width : OffsetWidth) (len : ℕ) (validity offsets : List ℕ) : Type 0 where
  pub bits : len ≤ 8 * length validity
  pub there : offset_bytes width * (len + 1) ≤ length offsets
  pub zero : place_of width offsets 0 ≡ 0
  pub never : (j : ℕ) → j < len → place_of width offsets j ≤ place_of width offsets (j + 1)
  pub low : place_of width offsets len < offset_bound width

-- the ranges lie within `top` bytes, or within that many slots of a child
pub record KeepsParts (width : OffsetWidth) (len top : ℕ) (validity offsets : List ℕ) : Type 0 where
  pub ranges : KeepsRanges width len validity offsets
  pub inside : place_of width offsets len ≤ top

-- there is a validity bit for each slot, and the child has `size` of its `top` slots for each list (Columnar Format,
-- "Fixed-Size List Layout")
pub record KeepsSized (size len top : ℕ) (validity : List ℕ) : Type 0 where
  pub bits : len ≤ 8 * length validity
  pub inside : size * len ≤ top

-- lists have their ranges within the child's `top` slots
abbrev pub KeepsLists : ListForm → ℕ → ℕ → List ℕ → List ℕ → Type 0
KeepsLists (lists.Offsets width) len top validity offsets = KeepsParts width len top validity offsets
KeepsLists (lists.Fixed size) len top validity offsets = KeepsSized size len top validity

-- there is a validity bit for each slot, and each child has each slot
pub record KeepsStructs (len : ℕ) (validity counts : List ℕ) : Type 0 where
  pub bits : len ≤ 8 * length validity
  pub longer : AllByRecursion (λ count. len ≤ count) counts

-- the buffers of a node of the form, and its children given by their numbers of slots
abbrev pub Keeps : Form → ℕ → List (List ℕ) → List ℕ → Type 0
Keeps forms.Nulls len b counts = ⊤
Keeps forms.Bits len b counts = KeepsBools len (buffer b 0) (buffer b 1)
Keeps (forms.Numbers number) len b counts = KeepsFixed len (number_width number) (buffer b 0) (buffer b 1)
Keeps (forms.Bytes width) len b counts = KeepsParts width len (length (buffer b 2)) (buffer b 0) (buffer b 1)
Keeps (forms.Texts width) len b counts = KeepsParts width len (length (buffer b 2)) (buffer b 0) (buffer b 1)
Keeps (forms.FixedBytes width) len b counts = KeepsFixed len width (buffer b 0) (buffer b 1)
Keeps (forms.Lists list) len b counts = KeepsLists list len (child_count counts) (buffer b 0) (list_offsets list b)
Keeps forms.Structs len b counts = KeepsStructs len (buffer b 0) counts

-- the items of slot j begin after those of the first j lists (Columnar Format, "Variable-size List Layout",
-- "Fixed-Size List Layout"); nothing is stated of other forms
abbrev pub CountsItems : Form → ℕ → List (List ℕ) → List PlainValue → Type 0
CountsItems forms.Nulls len b raw = ⊤
CountsItems forms.Bits len b raw = ⊤
CountsItems (forms.Numbers number) len b raw = ⊤
CountsItems (forms.Bytes width) len b raw = ⊤
CountsItems (forms.Texts width) len b raw = ⊤
CountsItems (forms.FixedBytes width) len b raw = ⊤
CountsItems (forms.Lists list) len b raw = (j : ℕ) → j ≤ len → item_place list (list_offsets list b) j ≡ length (all_items list (take j raw))
CountsItems forms.Structs len b raw = ⊤
