-- Bits in a list of bytes.
use Rattle.std.specs.Prelude.{ℕ, ◌+◌, ◌*◌, ◌/◌, ◌%◌, ◌==◌, ◌≡◌, ◌≢◌, ◌≤◌, ◌<◌, ◌⊎◌, Bool, true, false, List, length, map, slice_index, count_by}
use Rattle.std.specs.List.{range_with_len}
use Rattle.std.specs.Int.{bit_at, div_ceil}

-- Bit j of bytes whose bits are counted from the lowest of the first byte, eight to a byte (Columnar Format, "Validity
-- bitmaps"). Past the end of the bytes it is not set.
unfoldable pub bit_of : List ℕ → ℕ → Bool
bit_of bytes j = bit_at (slice_index bytes (j / 8)) (j % 8) == 1

-- the first `len` bits
abbrev pub bits_of : ℕ → List ℕ → List Bool
bits_of len bytes = map (bit_of bytes) (range_with_len 0 len)

-- how many of the first `len` bits are set
abbrev pub ones_of : ℕ → List ℕ → ℕ
ones_of len bytes = count_by (λ b. b) (bits_of len bytes)

-- bit i is the first one from `start` on that is not set, or it is `stop` and each one before it is set
pub record IsFirstUnset (bytes : List ℕ) (start stop i : ℕ) : Type 0 where
  pub low : start ≤ i
  pub high : i ≤ stop
  pub set : (j : ℕ) → start ≤ j → j < i → bit_of bytes j ≡ true
  pub unset : i < stop → bit_of bytes i ≡ false

-- the bytes hold these bits and nothing else: there are as few bytes as possible, and the bits after the last are 0
pub record IsPacked (bits : List Bool) (bytes : List ℕ) : Type 0 where
  pub few : length bytes ≡ div_ceil (length bits) 8
  pub same : bits_of (length bits) bytes ≡ bits
  pub spare : (j : ℕ) → length bits ≤ j → bit_of bytes j ≡ false

-- bit `at` is this one, every other bit stays, no byte goes, and there are no more bytes than before or than these bits need
pub record PutsBit (at : ℕ) (bit : Bool) (old new : List ℕ) : Type 0 where
  pub put : bit_of new at ≡ bit
  pub same : (j : ℕ) → j ≢ at → bit_of new j ≡ bit_of old j
  pub long : at < 8 * length new
  pub kept : length old ≤ length new
  pub few : (length new ≡ length old) ⊎ (length new ≡ at / 8 + 1)
