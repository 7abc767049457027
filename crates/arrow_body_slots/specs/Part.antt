-- The buffers of a node, one by one (Columnar Format, "Buffer Listing for Each Layout").
use Rattle.std.specs.Prelude.{◌≡◌, ◌≤◌, ℕ, zero, suc, ◌+◌, not, List, ◌++◌, length, map, Option, None, Some, ⊤}
use Rattle.std.specs.List.{flat_map, sum_by}
use Rattle.arrow_bits.specs.Numbers.{FitsWidth, number_bytes}
use Rattle.arrow_layout.specs.Form.{greatest_offset, number_width, offset_bytes}
use Rattle.arrow_layout.specs.PlainValue.{PlainValue, is_null_value}
use Rattle.arrow_layout.specs.declared.form.Form.{Form}
use Rattle.arrow_layout.specs.declared.form.Form.TheVariants as forms
use Rattle.arrow_layout.specs.declared.form.ListForm.{ListForm}
use Rattle.arrow_layout.specs.declared.form.ListForm.TheVariants as lists
use Rattle.arrow_layout.specs.declared.form.OffsetWidth.{OffsetWidth}
use Rattle.arrow_body_laws.specs.Packed.{offsets_bytes, packed}
use Rattle.arrow_body_laws.specs.Raws.{bytes_in_value, fixed_in, items_in_value, number_in, truth_in}
use Rattle.arrow_body_laws.specs.Stored.{number_buffer, validity_bytes}
use Rattle.arrow_body_slots.specs.Packing.{IsPacking}
use Rattle.arrow_body_slots.specs.declared.part.BufferKind.{BufferKind}
use Rattle.arrow_body_slots.specs.declared.part.BufferKind.TheVariants.{Validity, Truths, Numbers, StringOffsets, ListOffsets, Strings, FixedBytes}
use Rattle.arrow_body_slots.specs.declared.writing.Writing.{Writing}

-- buffer k of a node of lists after the validity buffer: the offsets, if these are stored
abbrev pub list_part : ListForm → ℕ → Option BufferKind
list_part (lists.Offsets width) zero = Some (ListOffsets width)
list_part (lists.Offsets width) (suc k) = None
list_part (lists.Fixed size) k = None

-- buffer k of a node of the form
abbrev pub part_of : Form → ℕ → Option BufferKind
part_of forms.Nulls k = None
part_of forms.Bits zero = Some Validity
part_of forms.Bits (suc zero) = Some Truths
part_of forms.Bits (suc (suc k)) = None
part_of (forms.Numbers number) zero = Some Validity
part_of (forms.Numbers number) (suc zero) = Some (Numbers number)
part_of (forms.Numbers number) (suc (suc k)) = None
part_of (forms.Bytes width) zero = Some Validity
part_of (forms.Bytes width) (suc zero) = Some (StringOffsets width)
part_of (forms.Bytes width) (suc (suc zero)) = Some Strings
part_of (forms.Bytes width) (suc (suc (suc k))) = None
part_of (forms.Texts width) zero = Some Validity
part_of (forms.Texts width) (suc zero) = Some (StringOffsets width)
part_of (forms.Texts width) (suc (suc zero)) = Some Strings
part_of (forms.Texts width) (suc (suc (suc k))) = None
part_of (forms.FixedBytes width) zero = Some Validity
part_of (forms.FixedBytes width) (suc zero) = Some (FixedBytes width)
part_of (forms.FixedBytes width) (suc (suc k)) = None
part_of (forms.Lists list) zero = Some Validity
part_of (forms.Lists list) (suc k) = list_part list k
part_of forms.Structs zero = Some Validity
part_of forms.Structs (suc k) = None

-- the bytes of the buffer of slots with these values
abbrev pub part_bytes : BufferKind → List PlainValue → List ℕ
part_bytes Validity vs = packed (map (λ v. not (is_null_value v)) vs)
part_bytes Truths vs = packed (map truth_in vs)
part_bytes (Numbers number) vs = number_buffer (number_width number) vs
part_bytes (StringOffsets width) vs = offsets_bytes width (map (λ v. length (bytes_in_value v)) vs)
part_bytes (ListOffsets width) vs = offsets_bytes width (map (λ v. length (items_in_value 0 v)) vs)
part_bytes Strings vs = flat_map bytes_in_value vs
part_bytes (FixedBytes width) vs = flat_map (fixed_in width) vs

-- the bytes that are sent for the buffer: no validity if no slot is null
abbrev pub chunk_of : BufferKind → List PlainValue → List ℕ
chunk_of Validity vs = validity_bytes vs
chunk_of Truths vs = part_bytes Truths vs
chunk_of (Numbers number) vs = part_bytes (Numbers number) vs
chunk_of (StringOffsets width) vs = part_bytes (StringOffsets width) vs
chunk_of (ListOffsets width) vs = part_bytes (ListOffsets width) vs
chunk_of Strings vs = part_bytes Strings vs
chunk_of (FixedBytes width) vs = part_bytes (FixedBytes width) vs

-- the width of offsets can represent the offsets of the values
abbrev pub IsRepresentable : BufferKind → List PlainValue → Type 0
IsRepresentable Validity vs = ⊤
IsRepresentable Truths vs = ⊤
IsRepresentable (Numbers number) vs = ⊤
IsRepresentable (StringOffsets width) vs = sum_by (λ v. length (bytes_in_value v)) vs ≤ greatest_offset width
IsRepresentable (ListOffsets width) vs = sum_by (λ v. length (items_in_value 0 v)) vs ≤ greatest_offset width
IsRepresentable Strings vs = ⊤
IsRepresentable (FixedBytes width) vs = ⊤

-- the number of a slot fits into a buffer of numbers
abbrev pub HasRoom : BufferKind → PlainValue → Type 0
HasRoom Validity v = ⊤
HasRoom Truths v = ⊤
HasRoom (Numbers number) v = FitsWidth (number_width number) (number_in v)
HasRoom (StringOffsets width) v = ⊤
HasRoom (ListOffsets width) v = ⊤
HasRoom Strings v = ⊤
HasRoom (FixedBytes width) v = ⊤

-- One more offset is appended and kept: the last one plus `len`, if the width can represent that.
abbrev pub HasNextOffset : OffsetWidth → ℕ → Writing → Writing → Type 0
HasNextOffset width len old new =
    (new.out.items ≡ old.out.items ++ number_bytes (offset_bytes width) new.end)
    × (old.end + len ≤ greatest_offset width → new.end ≡ old.end + len)

-- `before` is followed by the offsets of slots with these values and these lengths, and the last offset is kept, if
-- the width can represent them.
abbrev pub AreOffsetsTo : OffsetWidth → (PlainValue → ℕ) → List ℕ → List PlainValue → Writing → Type 0
AreOffsetsTo width long before vs w =
    sum_by long vs ≤ greatest_offset width → (w.out.items ≡ before ++ offsets_bytes width (map long vs)) × (w.end ≡ sum_by long vs)

-- `before` is followed by the contents of the buffer for slots with these values. For offsets this is required only
-- if their width can represent them; the last one is also kept separately.
abbrev pub IsWritten : BufferKind → List ℕ → List PlainValue → Writing → Type 0
IsWritten Validity before vs w = IsPacking before (map (λ v. not (is_null_value v)) vs) w.pending.byte w.pending.weight w.out.items
IsWritten Truths before vs w = IsPacking before (map truth_in vs) w.pending.byte w.pending.weight w.out.items
IsWritten (Numbers number) before vs w = w.out.items ≡ before ++ number_buffer (number_width number) vs
IsWritten (StringOffsets width) before vs w = AreOffsetsTo width (λ v. length (bytes_in_value v)) before vs w
IsWritten (ListOffsets width) before vs w = AreOffsetsTo width (λ v. length (items_in_value 0 v)) before vs w
IsWritten Strings before vs w = w.out.items ≡ before ++ flat_map bytes_in_value vs
IsWritten (FixedBytes width) before vs w = w.out.items ≡ before ++ flat_map (fixed_in width) vs

-- Slots with these values are added to the buffer.
abbrev pub Puts : BufferKind → List PlainValue → Writing → Writing → Type 0
Puts part vs old new = (before : List ℕ) (was : List PlainValue) → IsWritten part before was old → IsWritten part before (was ++ vs) new
