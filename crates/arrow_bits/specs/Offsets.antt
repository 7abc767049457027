-- Offsets in a list of bytes: signed numbers of 4 bytes, or of 8 for the large variants.
use Rattle.std.specs.Prelude.{ℕ, ◌+◌, ◌*◌, ◌≤◌, ◌<◌, List, length, map, ℤ, pos, ◌≤ℤ◌}
use Rattle.std.specs.List.{range_with_len}
use Rattle.std.specs.List.Sorted.{IsNonDecreasing}
use Rattle.arrow_bits.specs.Numbers.{number_at, signed_at}

-- offset j: the signed number in slot j of `width` bytes (Columnar Format, "Variable-size Binary Layout")
abbrev pub offset_of : ℕ → List ℕ → ℕ → ℤ
offset_of width bytes j = signed_at bytes (width * j) width

-- there are `len + 1` offsets of `width` bytes that begin at 0 or above, do not fall and stay within `top`
-- (Columnar Format, "Variable-size Binary Layout")
pub record AreOffsetsOf (width : ℕ) (bytes : List ℕ) (len top : ℕ) : Type 0 where
  pub there : width * (len + 1) ≤ length bytes
  pub first : pos 0 ≤ℤ offset_of width bytes 0
  pub rise : (j : ℕ) → j < len → offset_of width bytes j ≤ℤ offset_of width bytes (j + 1)
  pub last : offset_of width bytes len ≤ℤ pos top

-- the `len + 1` offsets of `width` bytes at the start of the bytes
abbrev pub signed_list : ℕ → ℕ → List ℕ → List ℤ
signed_list width len bytes = map (offset_of width bytes) (range_with_len 0 (len + 1))

-- the same read as unsigned: if none is negative, they are the same numbers
abbrev pub plain_list : ℕ → ℕ → List ℕ → List ℕ
plain_list width len bytes = map (λ j. number_at bytes (width * j) width) (range_with_len 0 (len + 1))

-- the bytes have room for `len + 1` offsets of `width` bytes, which do not fall: the invariant of a list of offsets
abbrev pub HoldsOffsets : ℕ → List ℕ → ℕ → Type 0
HoldsOffsets width bytes len = (width * (len + 1) ≤ length bytes) × IsNonDecreasing (plain_list width len bytes)

-- none of the numbers of `width` bytes from number `from` up to `to` is above the next one
abbrev pub NeverFall : ℕ → List ℕ → ℕ → ℕ → Type 0
NeverFall width bytes from to =
    (j : ℕ) → from ≤ j → j < to → number_at bytes (width * j) width ≤ number_at bytes (width * (j + 1)) width

-- offset j of 32 bits
abbrev pub offset_at : List ℕ → ℕ → ℤ
offset_at bytes j = offset_of 4 bytes j

-- `len + 1` offsets of 32 bits are there, in order and within `top`
abbrev pub AreOffsets : List ℕ → ℕ → ℕ → Type 0
AreOffsets bytes len top = AreOffsetsOf 4 bytes len top

-- these offsets, read as signed
abbrev pub signed_offsets_of : ℕ → List ℕ → List ℤ
signed_offsets_of len bytes = signed_list 4 len bytes

-- these offsets, read as unsigned
abbrev pub offsets_of : ℕ → List ℕ → List ℕ
offsets_of len bytes = plain_list 4 len bytes

-- offset j of 64 bits (the large variants)
abbrev pub large_offset_at : List ℕ → ℕ → ℤ
large_offset_at bytes j = offset_of 8 bytes j

-- `len + 1` offsets of 64 bits are there, in order and within `top`
abbrev pub AreLargeOffsets : List ℕ → ℕ → ℕ → Type 0
AreLargeOffsets bytes len top = AreOffsetsOf 8 bytes len top

-- these offsets, read as signed
abbrev pub signed_large_offsets_of : ℕ → List ℕ → List ℤ
signed_large_offsets_of len bytes = signed_list 8 len bytes

-- these offsets, read as unsigned
abbrev pub large_offsets_of : ℕ → List ℕ → List ℕ
large_offsets_of len bytes = plain_list 8 len bytes
