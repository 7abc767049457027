-- What it means to put one more after the first bits or slots (Columnar Format, "Physical Memory Layout").
use Rattle.std.specs.Prelude.{◌≡◌, ◌≤◌, ◌<◌, ℕ, Bool, List, Option, None, Some}
use Rattle.arrow_layout.specs.PlainValue.{PlainValue, null_value}
use Rattle.arrow_layout.specs.Slots.{is_valid_at, or_null, place_of, range_of}
use Rattle.arrow_layout.specs.declared.form.OffsetWidth.{OffsetWidth}

-- the first `at` slots stay, and the one after them has the value
pub record PutsSlot (at : ℕ) (value : PlainValue) (old new : ℕ → PlainValue) : Type 0 where
  pub same : (j : ℕ) → j < at → new j ≡ old j
  pub put : new at ≡ value

-- the first `at` slots stay
abbrev pub StaySlots : ℕ → (ℕ → PlainValue) → (ℕ → PlainValue) → Type 0
StaySlots at old new = (j : ℕ) → j < at → new j ≡ old j

-- the value, or null if there is none
abbrev pub value_or_null : {A : Type 0} → (A → PlainValue) → Option A → PlainValue
value_or_null value None = null_value
value_or_null value (Some a) = value a

-- the validity of the first `at` slots stays, and that of the one after them is `valid`
pub record PutsValid (at : ℕ) (valid : Bool) (old new : List ℕ) : Type 0 where
  pub same : (j : ℕ) → j < at → is_valid_at new j ≡ is_valid_at old j
  pub put : is_valid_at new at ≡ valid

-- the offsets up to number `at` stay
abbrev pub StayPlaces : OffsetWidth → ℕ → List ℕ → List ℕ → Type 0
StayPlaces width at old new = (j : ℕ) → j ≤ at → place_of width new j ≡ place_of width old j

-- the value that a slot has by its range of the bytes, if it is valid
abbrev pub part_slot : (List ℕ → PlainValue) → OffsetWidth → List ℕ → List ℕ → List ℕ → ℕ → PlainValue
part_slot value width validity offsets bytes j = or_null validity j (value (range_of width offsets bytes j))
