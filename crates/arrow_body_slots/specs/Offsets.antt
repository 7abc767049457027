-- The offsets of an array, and the content between them.
use Rattle.std.specs.Prelude.{◌≡◌, ◌≤◌, ◌<◌, ◌+◌, ℕ, false, List, [], length, slice_index, if◌then◌else◌}
use Rattle.arrow_layout.specs.PlainValue.{PlainValue, value_at}
use Rattle.arrow_layout.specs.Slots.{HasBits, HasOffsets, is_valid_at, place_of, range_of}
use Rattle.arrow_layout.specs.declared.form.OffsetWidth.{OffsetWidth}
use Rattle.arrow_body_slots.specs.Spans.{AreSpans, AreThere}
use Rattle.arrow_body_slots.specs.declared.offsets.Offsets.{Offsets}
use Rattle.arrow_body_slots.specs.declared.slice.ColumnSlice.{ColumnSlice}
use Rattle.arrow_body_slots.specs.declared.spans.OffsetRun.{OffsetRun}

-- the offsets have this width, validity bitmap and these bytes, and each element is a byte
pub record AreOf (width : OffsetWidth) (validity bytes : List ℕ) (o : Offsets) : Type 0 where
  pub same_width : o.width ≡ width
  pub same_validity : o.validity.now ≡ validity
  pub same_bytes : o.bytes.now ≡ bytes
  pub small : (k : ℕ) → slice_index o.bytes.now k < 256

-- A slot has the part of `all` that lies from its offset up to the next one, and nothing if it is null (Columnar
-- Format, "Variable-size Binary Layout" and "Variable-size List Layout").
pub record AreHeld {A : Type 0} (o : Offsets) (all : List A) (give : PlainValue → List A) (raw : List PlainValue) : Type 0 where
  pub bits : HasBits (length raw) o.validity.now
  pub rising : HasOffsets o.width (length raw) (length all) o.bytes.now
  pub small : (k : ℕ) → slice_index o.bytes.now k < 256
  pub held : (j : ℕ) → j < length raw → give (value_at raw j) ≡ (if is_valid_at o.validity.now j then range_of o.width o.bytes.now all j else [])

-- they are the offsets of a range of slots, and nothing lies under a null of the range
pub record AreBetween (o : Offsets) (start stop : ℕ) (s : OffsetRun) : Type 0 where
  pub there : AreThere s
  pub some : start < stop
  pub width : s.width ≡ o.width
  pub offsets : s.offsets.now ≡ o.bytes.now
  pub first : s.start ≡ start
  pub last : s.stop ≡ stop
  pub nothing : (j : ℕ) → start ≤ j → j < stop → is_valid_at o.validity.now j ≡ false → place_of o.width o.bytes.now (j + 1) ≡ place_of o.width o.bytes.now j

-- they are the offsets of these slots, and give the length of each
pub record AreSpansOf (s : OffsetRun) (long : PlainValue → ℕ) (raw : List PlainValue) (start stop : ℕ) : Type 0 where
  pub spans : AreSpans s long raw
  pub first : s.start ≡ start
  pub last : s.stop ≡ stop

-- they are the offsets of a slice, whose slots have these lengths
abbrev pub HasSpans : ColumnSlice → (PlainValue → ℕ) → OffsetRun → Type 0
HasSpans slice long spans = AreSpansOf spans long slice.array.now.raw slice.start slice.stop
