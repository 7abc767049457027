-- Consecutive slots without nulls.
use Rattle.std.specs.Prelude.{◌≡◌, ◌≤◌, ℕ, Bool, true, false, List, [], ◌∷◌, length, ⊤}
use Rattle.std.specs.List.{flat_map}
use Rattle.arrow_data.specs.Column.{AreOf, Column, IsList, values_from}
use Rattle.arrow_layout.specs.Form.{number_width}
use Rattle.arrow_layout.specs.PlainValue.{PlainValue}
use Rattle.arrow_layout.specs.declared.form.OffsetWidth.{OffsetWidth}
use Rattle.arrow_layout.specs.declared.form.Form.{Form}
use Rattle.arrow_layout.specs.declared.form.Form.TheVariants as forms
use Rattle.arrow_body_laws.specs.Raws.{bytes_in_value, fixed_in, items_in_value}
use Rattle.arrow_body_laws.specs.Stored.{number_buffer}
use Rattle.arrow_body_slots.specs.Spans.{AreSpans, AreThere}
use Rattle.arrow_body_slots.specs.declared.part.BufferKind.{BufferKind}
use Rattle.arrow_body_slots.specs.declared.part.BufferKind.TheVariants.{Validity, Truths, Numbers, StringOffsets, ListOffsets, Strings, FixedBytes}
use Rattle.arrow_body_slots.specs.declared.pieces.SlotRun.{SlotRun}
use Rattle.arrow_body_slots.specs.declared.pieces.SlotRun.TheVariants as pieces
use Rattle.arrow_body_slots.specs.declared.slice.ColumnSlice.{ColumnSlice}
use Rattle.arrow_body_slots.specs.declared.spans.OffsetRun.{OffsetRun}

-- slots of the form hold byte strings or texts
abbrev pub are_strings : Form → Bool
are_strings forms.Nulls = false
are_strings forms.Bits = false
are_strings (forms.Numbers number) = false
are_strings (forms.Bytes width) = true
are_strings (forms.Texts width) = true
are_strings (forms.FixedBytes width) = true
are_strings (forms.Lists list) = false
are_strings forms.Structs = false

-- The items of all lists of a range are the child's values from `first` up to `last`; no list is null, so the number
-- of nulls that a null list would send does not matter (Columnar Format, "Variable-size List Layout", "Fixed-Size
-- List Layout").
pub record HasRun (c : Column) (start stop first last : ℕ) (child : Column) : Type 0 where
  pub typed : AreOf c.data_type.children (child ∷ [])
  pub ordered : first ≤ last
  pub inside : last ≤ length child.raw
  pub same : (n : ℕ) → flat_map (items_in_value n) (values_from c.raw start stop) ≡ values_from child.raw first last

-- they are the items of all lists of a slice
abbrev pub HasItems : ColumnSlice → ColumnSlice → Type 0
HasItems lists items = HasRun lists.array.now lists.start lists.stop items.start items.stop items.array.now

-- a range has no items, and if it is one of lists, none for any number of nulls that a null list would send
pub record HasNoRun (c : Column) (start stop : ℕ) : Type 0 where
  pub none : flat_map (items_in_value 0) (values_from c.raw start stop) ≡ []
  pub none_of_lists : IsList c → (n : ℕ) → flat_map (items_in_value n) (values_from c.raw start stop) ≡ []

-- there are none in a slice
abbrev pub HasNoItems : ColumnSlice → Type 0
HasNoItems lists = HasNoRun lists.array.now lists.start lists.stop

-- the bytes are the contents of the buffer for slots with these values, if it is a buffer with bytes for each slot
abbrev pub AreBytesOf : BufferKind → List PlainValue → List ℕ → Type 0
AreBytesOf Validity vs bytes = ⊥
AreBytesOf Truths vs bytes = ⊥
AreBytesOf (Numbers number) vs bytes = bytes ≡ number_buffer (number_width number) vs
AreBytesOf (StringOffsets width) vs bytes = ⊥
AreBytesOf (ListOffsets width) vs bytes = ⊥
AreBytesOf Strings vs bytes = bytes ≡ flat_map bytes_in_value vs
AreBytesOf (FixedBytes width) vs bytes = bytes ≡ flat_map (fixed_in width) vs

-- they are the offsets of slots with these values, which have these lengths
pub record AreOffsetsOf (s : OffsetRun) (width : OffsetWidth) (long : PlainValue → ℕ) (vs : List PlainValue) : Type 0 where
  pub raw : List PlainValue
  pub spans : AreSpans s long raw
  pub same_width : s.width ≡ width
  pub values : vs ≡ values_from raw s.start s.stop

-- offsets are those of slots with these values
abbrev pub AreSpansIn : BufferKind → List PlainValue → OffsetRun → Type 0
AreSpansIn Validity vs s = ⊥
AreSpansIn Truths vs s = ⊥
AreSpansIn (Numbers number) vs s = ⊥
AreSpansIn (StringOffsets width) vs s = AreOffsetsOf s width (λ v. length (bytes_in_value v)) vs
AreSpansIn (ListOffsets width) vs s = AreOffsetsOf s width (λ v. length (items_in_value 0 v)) vs
AreSpansIn Strings vs s = ⊥
AreSpansIn (FixedBytes width) vs s = ⊥

-- a piece is the contents of the buffer for slots with these values
abbrev pub IsPiece : BufferKind → List PlainValue → SlotRun → Type 0
IsPiece part vs (pieces.Bytes bytes) = AreBytesOf part vs bytes.now
IsPiece part vs (pieces.Offsets spans) = AreSpansIn part vs spans

-- a piece of offsets has the offsets it needs
abbrev pub IsThere : SlotRun → Type 0
IsThere (pieces.Bytes bytes) = ⊤
IsThere (pieces.Offsets spans) = AreThere spans
