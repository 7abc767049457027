-- Bits on their way into bytes.
use Rattle.std.specs.Prelude.{◌≡◌, ◌<◌, ℕ, ◌*◌, ◌^◌, Bool, List, ◌++◌, length}
use Rattle.arrow_body_laws.specs.Packed.{number_of_bits, packed}

-- The bits are packed after `before`, except those of the last byte, which is not full: that byte and the weight of
-- its next bit are kept separately (Columnar Format, "Validity bitmaps").
pub record IsPacking (before : List ℕ) (bits : List Bool) (byte weight : ℕ) (items : List ℕ) : Type 0 where
  pub whole : List Bool
  pub rest : List Bool
  pub count : ℕ
  pub split : bits ≡ whole ++ rest
  pub full : length whole ≡ 8 * count
  pub few : length rest < 8
  pub kept : byte ≡ number_of_bits rest
  pub next : weight ≡ 2 ^ length rest
  pub written : items ≡ before ++ packed whole
