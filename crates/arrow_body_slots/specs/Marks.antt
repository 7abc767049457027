-- The validity bitmap of slots, and the bytes of their numbers, as an array stores them.
use Rattle.std.specs.Prelude.{◌≡◌, ◌≤◌, ◌<◌, ◌+◌, ◌-◌, ◌*◌, ℕ, Bool, false, not, List, length, map, slice_range, Option, None, Some}
use Rattle.std.specs.List.{range_with_len}
use Rattle.arrow_bits.specs.Bitmap.{bit_of}
use Rattle.arrow_bits.specs.Numbers.{int_bytes}
use Rattle.arrow_layout.specs.PlainValue.{PlainValue, is_null_value, null_value, value_at}
use Rattle.arrow_data.specs.declared.view.Buffers.{Buffers}
use Rattle.arrow_data.specs.declared.view.Buffers.TheVariants as buffers
use Rattle.arrow_body_laws.specs.Raws.{number_in}
use Rattle.arrow_body_slots.specs.declared.masked.NullMasked.{NullMasked}
use Rattle.arrow_body_slots.specs.declared.packing.BitRange.{BitRange}

-- the bits from one index up to another
abbrev pub bits_from : List ℕ → ℕ → ℕ → List Bool
bits_from bytes start stop = map (bit_of bytes) (range_with_len start (stop - start))

-- the bytes have these bits
pub record IsBitRange (r : BitRange) : Type 0 where
  pub order : r.start ≤ r.stop
  pub inside : r.stop ≤ 8 * length r.bytes.now

-- the bits
abbrev pub bits_in : BitRange → List Bool
bits_in r = bits_from r.bytes.now r.start r.stop

-- each slot is null (Columnar Format, "Null Layout")
abbrev pub AreNulls : List PlainValue → Type 0
AreNulls raw = (j : ℕ) → j < length raw → value_at raw j ≡ null_value

-- Each slot has its bit, which is set if the slot is not null (Columnar Format, "Validity bitmaps").
pub record AreMarked (raw : List PlainValue) (bits : List ℕ) : Type 0 where
  pub long : length raw ≤ 8 * length bits
  pub same : (j : ℕ) → j < length raw → not (is_null_value (value_at raw j)) ≡ bit_of bits j

-- Each slot has `width` bytes, which are those of its number if the slot is not null (Columnar Format, "Fixed-size
-- Primitive Layout").
pub record AreNumbered (width : ℕ) (raw : List PlainValue) (values : List ℕ) : Type 0 where
  pub long : width * length raw ≤ length values
  pub same : (j : ℕ) → j < length raw → is_null_value (value_at raw j) ≡ false
      → int_bytes width (number_in (value_at raw j)) ≡ slice_range values (width * j) (width * (j + 1))

-- the numbers of the slots, with the bitmap
pub record HasNumbers (n : NullMasked) (raw : List PlainValue) : Type 0 where
  pub marks : AreMarked raw n.bits.now
  pub numbers : AreNumbered n.width raw n.values.now

-- Each slot has its bit, which is set if the slot is not null; then the slot equals the one of `own` at the same
-- index (Columnar Format, "Struct Layout").
pub record AreMasked (own raw : List PlainValue) (bits : List ℕ) : Type 0 where
  pub marks : AreMarked raw bits
  pub longer : length raw ≤ length own
  pub same : (j : ℕ) → j < length raw → is_null_value (value_at raw j) ≡ false → value_at raw j ≡ value_at own j

-- the validity buffer, none for a column of the Null layout, in which all is null
abbrev pub validity_of : Buffers → Option (List ℕ)
validity_of buffers.Nulls = None
validity_of (buffers.Bools validity values) = Some validity.now
validity_of (buffers.Numbers of) = Some of.validity.now
validity_of (buffers.Binaries of) = Some of.validity.now
validity_of (buffers.Texts of) = Some of.validity.now
validity_of (buffers.FixedBytes width validity values) = Some validity.now
validity_of (buffers.Lists list validity offsets child) = Some validity.now
validity_of (buffers.Structs validity children) = Some validity.now
validity_of (buffers.Indices of dictionary) = Some of.validity.now
