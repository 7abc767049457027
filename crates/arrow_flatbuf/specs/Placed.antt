-- The contents at a position, aligned.
use Rattle.std.specs.Prelude.{◌≡◌, ℕ, suc, ◌≤◌, ◌<◌, ◌^◌, ◌%◌, List, [], ◌∷◌, Some, None}
use Rattle.arrow_flatbuf.specs.Table.{TableAt, table_at, field_place}
use Rattle.arrow_flatbuf.specs.Place.{number_at, target_at}
use Rattle.arrow_flatbuf.specs.Vtable.{Vtable, vtable_at}
use Rattle.arrow_flatbuf.specs.declared.layout.FieldValue.{FieldValue}
use Rattle.arrow_flatbuf.specs.declared.layout.FieldValue.TheVariants.{Absent, Scalar, Target}
use Rattle.arrow_flatbuf.specs.Layout.{width}

-- field i of a table, as it should be written
abbrev pub SlotPlaced : TableAt → ℕ → FieldValue → Type 0
SlotPlaced t i Absent = field_place t i ≡ None
SlotPlaced t i (Scalar w n) = (q : ℕ) × (field_place t i ≡ Some q) × (q % width w ≡ 0) × (number_at (width w) t.bytes q ≡ Some n)
SlotPlaced t i (Target r) = (q : ℕ) × (field_place t i ≡ Some q) × (q % 4 ≡ 0) × (target_at t.bytes q ≡ Some r)

-- the fields from number i on, and no others
abbrev pub SlotsPlaced : TableAt → ℕ → List FieldValue → Type 0
SlotsPlaced t i [] = (j : ℕ) → i ≤ j → field_place t j ≡ None
SlotsPlaced t i (s ∷ ss) = SlotPlaced t i s × SlotsPlaced t (suc i) ss

-- a table of these fields
pub record TablePlaced (bytes : List ℕ) (p : ℕ) (ss : List FieldValue) : Type 0 where
  pub aligned : p % 8 ≡ 0
  pub readable : table_at bytes p ≡ Some (record { bytes = bytes; place = p })
  pub even : (v : Vtable) × (vtable_at bytes p ≡ Some v) × (v.place % 2 ≡ 0)
  pub fields : SlotsPlaced (record { bytes = bytes; place = p }) 0 ss

-- A number fits its width, and an offset leads to a position from e on that four bytes can represent.
abbrev pub SlotFits : ℕ → FieldValue → Type 0
SlotFits e Absent = Unit {0}
SlotFits e (Scalar w n) = n < 256 ^ width w
SlotFits e (Target r) = (e ≤ r) × (r < 2 ^ 32)

abbrev pub SlotsFit : ℕ → List FieldValue → Type 0
SlotsFit e [] = Unit {0}
SlotsFit e (s ∷ ss) = SlotFits e s × SlotsFit e ss
