-- Offsets in an array, for a range of its slots.
use Rattle.std.specs.Prelude.{◌≡◌, ◌≤◌, ◌<◌, ◌+◌, ◌-◌, ◌*◌, ◌%◌, ◌^◌, ℕ, zero, suc, List, [], ◌++◌, length, slice_range}
use Rattle.arrow_bits.specs.Numbers.{number_at, number_bytes}
use Rattle.arrow_layout.specs.Form.{offset_bytes}
use Rattle.arrow_layout.specs.PlainValue.{PlainValue, value_at}
use Rattle.arrow_layout.specs.Slots.{place_of}
use Rattle.arrow_body_slots.specs.declared.spans.OffsetRun.{OffsetRun}

-- offset j
abbrev pub place_in : OffsetRun → ℕ → ℕ
place_in s j = place_of s.width s.offsets.now j

-- there is an offset before each of the slots and after the last
pub record AreThere (s : OffsetRun) : Type 0 where
  pub order : s.start ≤ s.stop
  pub long : offset_bytes s.width * (s.stop + 1) ≤ length s.offsets.now

-- The offsets before and after a slot differ by the length of the slot: by nothing if it is null (Columnar Format,
-- "Variable-size Binary Layout").
pub record AreSpans (s : OffsetRun) (long : PlainValue → ℕ) (raw : List PlainValue) : Type 0 where
  pub there : AreThere s
  pub inside : s.stop ≤ length raw
  pub same : (j : ℕ) → s.start ≤ j → j < s.stop → place_in s (j + 1) ≡ place_in s j + long (value_at raw j)

-- n numbers of a width, each increased by `by`, modulo the range of the width
abbrev pub moved : ℕ → ℕ → ℕ → List ℕ → List ℕ
moved w by zero bytes = []
moved w by (suc n) bytes = moved w by n bytes ++ number_bytes w ((number_at bytes (w * n) w + by) % 2 ^ (8 * w))

-- the offsets after the slots are appended, each increased by the amount that takes the offset before them to `end`
pub record PutsMoved (s : OffsetRun) (end : ℕ) (old new : List ℕ) : Type 0 where
  pub by : ℕ
  pub first : (place_in s s.start + by) % 2 ^ (8 * offset_bytes s.width) ≡ end % 2 ^ (8 * offset_bytes s.width)
  pub added : new ≡ old ++ moved (offset_bytes s.width) by (s.stop - s.start) (slice_range s.offsets.now (offset_bytes s.width * (s.start + 1)) (offset_bytes s.width * (s.stop + 1)))
