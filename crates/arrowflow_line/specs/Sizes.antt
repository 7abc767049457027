-- Sizes as people type them: a number of bytes, or of units of bytes. (The units are those of the GNU coreutils
-- manual, "Block size", in capitals up to T.)
use Rattle.std.specs.Prelude.{◌≡◌, ◌≢◌, ◌≤◌, ◌*◌, ◌^◌, ◌++◌, ◌⊎◌, ℕ, List, [], ◌∷◌, codes}
use Rattle.std.specs.Str.Parse.{IsNumeral, digits_value, without_leading_plus}
use Rattle.std.specs.Borrow.{Bor}
use Rattle.clap.specs.Words.{Text}

-- the units, each with its number of bytes
abbrev pub units : List (Text × ℕ)
units =
    (codes "KiB", 2 ^ 10) ∷ (codes "MiB", 2 ^ 20) ∷ (codes "GiB", 2 ^ 30) ∷ (codes "TiB", 2 ^ 40)
    ∷ (codes "KB", 10 ^ 3) ∷ (codes "MB", 10 ^ 6) ∷ (codes "GB", 10 ^ 9) ∷ (codes "TB", 10 ^ 12)
    ∷ (codes "K", 2 ^ 10) ∷ (codes "M", 2 ^ 20) ∷ (codes "G", 2 ^ 30) ∷ (codes "T", 2 ^ 40) ∷ []

-- a text without the first of these units with which it ends, and that unit's number of bytes: 1 if it ends with none
abbrev pub IsPartedBy : List (Text × ℕ) → Text → Text → ℕ → Type 0
IsPartedBy [] text number bytes = (number ≡ text) × (bytes ≡ 1)
IsPartedBy (unit ∷ rest) text number bytes =
    ((text ≡ number ++ unit.0) × (bytes ≡ unit.1)) ⊎ (((front : Text) → text ≢ front ++ unit.0) × IsPartedBy rest text number bytes)

-- a unit as the code represents it
abbrev pub unit_of : Bor Text × ℕ → Text × ℕ
unit_of unit = (unit.0.now, unit.1)

-- the text represents this size in bytes
pub record IsSize (text : Text) (n : ℕ) : Type 0 where
  pub number : Text
  pub bytes : ℕ
  pub parted : IsPartedBy units text number bytes
  pub numeral : IsNumeral 10 (without_leading_plus number)
  pub is : n ≡ digits_value 10 (without_leading_plus number) * bytes

-- the same for a size within these bounds
abbrev pub IsSizeIn : ℕ → ℕ → Text → ℕ → Type 0
IsSizeIn least most text n = IsSize text n × (least ≤ n) × (n ≤ most)

-- the text represents no size within these bounds
abbrev pub LacksSize : ℕ → ℕ → Text → Type 0
LacksSize least most text = (n : ℕ) → IsSizeIn least most text n → ⊥
