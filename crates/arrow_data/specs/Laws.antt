-- The laws of the definitions: the clauses on a child of a column hold of only one child (Columnar Format, "Struct
-- Layout" and "Variable-size List Layout").
use Rattle.std.specs.Prelude.{◌≡◌, ℕ}
use Rattle.arrow_data.specs.Column.{Column, HasChild, HasField, slots_of}

-- Two columns are the same to whoever reads their slots: of one type and encoding, with the same slots, including
-- those that no slot of the parent shows, and with the same dictionaries.
pub record AreOneColumn (c d : Column) : Type 0 where
  pub typed : (c.data_type ≡ d.data_type) × (c.encoding ≡ d.encoding)
  pub whole : slots_of c ≡ slots_of d
  pub listed : c.dictionaries ≡ d.dictionaries

-- there is one column of field k of a struct
abbrev pub OneField : Type 0
OneField = (c : Column) (k : ℕ) (a b : Column) → HasField c k a → HasField c k b → AreOneColumn a b

-- there is one column of the items of lists
abbrev pub OneChild : Type 0
OneChild = (c a b : Column) → HasChild c a → HasChild c b → AreOneColumn a b
