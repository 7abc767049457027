-- What the buffers of a node hold at each slot, by index (Columnar Format, "Physical Memory Layout"). A buffer is given by
-- its bytes.
use Rattle.std.specs.Prelude.{◌≡◌, ◌≤◌, ◌<◌, ◌+◌, ◌*◌, ◌||◌, ℕ, ℤ, pos, negsuc, Bool, true, false, nat_eq, List, length, map, slice_range, if◌then◌else◌, IsUtf8}
use Rattle.std.specs.List.{range_with_len}
use Rattle.arrow_bits.specs.Bitmap.{bit_of}
use Rattle.arrow_bits.specs.Numbers.{number_at, int_of}
use Rattle.arrow_bits.specs.Offsets.{AreOffsetsOf, plain_list}
use Rattle.arrow_types.specs.declared.field.IndexType.{IndexType}
use Rattle.arrow_layout.specs.Form.{int_width, offset_bytes}
use Rattle.arrow_layout.specs.PlainValue.{PlainValue, null_value, bool_value, int_value, binary_value, utf8_value, list_value, struct_value, values_of, value_at}
use Rattle.arrow_layout.specs.declared.form.ListForm.{ListForm}
use Rattle.arrow_layout.specs.declared.form.ListForm.TheVariants as lists
use Rattle.arrow_layout.specs.declared.form.OffsetWidth.{OffsetWidth}

-- slot j is valid: its bit is set, or there is no bitmap (Columnar Format, "Validity bitmaps")
abbrev pub is_valid_at : List ℕ → ℕ → Bool
is_valid_at validity j = nat_eq (length validity) 0 || bit_of validity j

-- slot i is the first one from `start` on that is not valid, or it is `stop` and each one before it is
pub record IsFirstInvalid (validity : List ℕ) (start stop i : ℕ) : Type 0 where
  pub low : start ≤ i
  pub high : i ≤ stop
  pub valid : (j : ℕ) → start ≤ j → j < i → is_valid_at validity j ≡ true
  pub invalid : i < stop → is_valid_at validity i ≡ false

-- the value if slot j is valid, else null
abbrev pub or_null : List ℕ → ℕ → PlainValue → PlainValue
or_null validity j value = if is_valid_at validity j then value else null_value

-- the truth value of slot j: bit j (Columnar Format, "Fixed-size Primitive Layout")
abbrev pub bool_slot : List ℕ → List ℕ → ℕ → PlainValue
bool_slot validity values j = or_null validity j (bool_value (bit_of values j))

-- the number of slot j (Columnar Format, "Fixed-size Primitive Layout")
abbrev pub int_slot : ℕ → Bool → List ℕ → List ℕ → ℕ → PlainValue
int_slot width signed validity values j = or_null validity j (int_value (int_of values (width * j) width signed))

-- the bytes of slot j, if each slot has `width` bytes (Columnar Format, "Fixed-size Primitive Layout"; Schema.fbs,
-- "FixedSizeBinary")
abbrev pub fixed_slot : ℕ → List ℕ → List ℕ → ℕ → PlainValue
fixed_slot width validity values j = or_null validity j (binary_value (slice_range values (width * j) (width * j + width)))

-- offset j, which is never negative in valid offsets (Columnar Format, "Variable-size Binary Layout")
abbrev pub place_of : OffsetWidth → List ℕ → ℕ → ℕ
place_of width offsets j = number_at offsets (offset_bytes width * j) (offset_bytes width)

-- the elements from offset j up to the next one
abbrev pub range_of : {A : Type 0} → OffsetWidth → List ℕ → List A → ℕ → List A
range_of width offsets xs j = slice_range xs (place_of width offsets j) (place_of width offsets (j + 1))

-- the byte string of slot j (Columnar Format, "Variable-size Binary Layout")
abbrev pub binary_slot : OffsetWidth → List ℕ → List ℕ → List ℕ → ℕ → PlainValue
binary_slot width validity offsets bytes j = or_null validity j (binary_value (range_of width offsets bytes j))

-- the text of slot j, with the layout of a byte string
abbrev pub utf8_slot : OffsetWidth → List ℕ → List ℕ → List ℕ → ℕ → PlainValue
utf8_slot width validity offsets bytes j = or_null validity j (utf8_value (range_of width offsets bytes j))

-- where the items of slot j begin among the slots of the child: at offset j, or after those of j fixed-size lists (Columnar
-- Format, "Variable-size List Layout", "Fixed-Size List Layout")
abbrev pub item_place : ListForm → List ℕ → ℕ → ℕ
item_place (lists.Offsets width) offsets j = place_of width offsets j
item_place (lists.Fixed size) offsets j = size * j

-- the child's slots from where the items of slot j begin up to where those of the next one do
abbrev pub items_at : ListForm → List ℕ → List PlainValue → ℕ → List PlainValue
items_at list offsets child j = slice_range child (item_place list offsets j) (item_place list offsets (j + 1))

-- the list of the items of slot j, from the values of the child
abbrev pub list_slot : ListForm → List ℕ → List ℕ → List PlainValue → ℕ → PlainValue
list_slot list validity offsets child j = or_null validity j (list_value (values_of (items_at list offsets child j)))

-- where the items of each of `len` slots begin, and where those of the last end
abbrev pub item_places : ListForm → ℕ → List ℕ → List ℕ
item_places (lists.Offsets width) len offsets = plain_list (offset_bytes width) len offsets
item_places (lists.Fixed size) len offsets = map (λ j. size * j) (range_with_len 0 (len + 1))

-- slot j of the values of each child (Columnar Format, "Struct Layout")
abbrev pub struct_slot : List ℕ → List (List PlainValue) → ℕ → PlainValue
struct_slot validity children j = or_null validity j (struct_value (values_of (map (λ values. value_at values j) children)))

-- the value that an index refers to, null if there is none
abbrev pub entry_at : List PlainValue → ℤ → PlainValue
entry_at values (pos n) = value_at values n
entry_at values (negsuc n) = null_value

-- the value of a dictionary that index j refers to (Columnar Format, "Dictionary-encoded Layout")
abbrev pub entry_slot : ℕ → Bool → List ℕ → List ℕ → List PlainValue → ℕ → PlainValue
entry_slot width signed validity indices values j = or_null validity j (entry_at values (int_of indices (width * j) width signed))

-- the values of the first `len` slots
abbrev pub slots : ℕ → (ℕ → PlainValue) → List PlainValue
slots len slot = map slot (range_with_len 0 len)

-- there is no bitmap, or it has `len` bits
abbrev pub HasBits : ℕ → List ℕ → Type 0
HasBits len bits = 0 < length bits → len ≤ 8 * length bits

-- `len` ranges that end at `top` or before; if there are no slots, the offsets may be left out
abbrev pub HasOffsets : OffsetWidth → ℕ → ℕ → List ℕ → Type 0
HasOffsets width len top offsets = 0 < len + length offsets → AreOffsetsOf (offset_bytes width) offsets len top

-- the items of `len` lists end at slot `top` of the child or before
abbrev pub HasItemPlaces : ListForm → ℕ → ℕ → List ℕ → Type 0
HasItemPlaces (lists.Offsets width) len top offsets = HasOffsets width len top offsets
HasItemPlaces (lists.Fixed size) len top offsets = size * len ≤ top

-- each valid slot is a text in UTF-8
abbrev pub AreTexts : OffsetWidth → ℕ → List ℕ → List ℕ → List ℕ → Type 0
AreTexts width len validity offsets bytes = (j : ℕ) → j < len → is_valid_at validity j ≡ true → IsUtf8 (range_of width offsets bytes j)

-- the index refers to one of `count` values
abbrev pub IsIndex : ℕ → ℤ → Type 0
IsIndex count (pos n) = n < count
IsIndex count (negsuc n) = ⊥

-- each valid slot has an index to one of `count` values
abbrev pub AreIndices : ℕ → ℕ → Bool → List ℕ → List ℕ → ℕ → Type 0
AreIndices len width signed validity indices count =
    (j : ℕ) → j < len → is_valid_at validity j ≡ true → IsIndex count (int_of indices (width * j) width signed)

-- how many bytes one index takes (Schema.fbs, "DictionaryEncoding")
abbrev pub index_width : IndexType → ℕ
index_width index = int_width index.bits
