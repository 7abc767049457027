-- What follows from the definitions.
use Rattle.std.specs.Prelude.{◌≡◌, ◌≢◌, ℕ, ℤ, List, Some, slice_get}
use Rattle.arrow_types.specs.Schema.{DictionaryField, OneType}
use Rattle.arrow_data.specs.Column.{ValueList}
use Rattle.arrow_data.specs.Listed.{listed}
use Rattle.arrow_dict.specs.Dictionaries.{IsRising, placed}
use Rattle.arrow_dict.specs.ValueTypes.{value_type_of}

-- what is placed for an id is what is listed for it
abbrev pub PlacedHere : Type 0
PlacedHere = (ds : List (ℤ × ValueList)) (id : ℤ) (d : ValueList) → listed (placed id d ds) id ≡ Some d

-- what is listed for other ids is unchanged
abbrev pub PlacedElsewhere : Type 0
PlacedElsewhere = (ds : List (ℤ × ValueList)) (id other : ℤ) (d : ValueList) → other ≢ id → listed (placed id d ds) other ≡ listed ds other

-- rising ids still rise
abbrev pub StaysRising : Type 0
StaysRising = (ds : List (ℤ × ValueList)) (id : ℤ) (d : ValueList) → IsRising ds → IsRising (placed id d ds)

-- if fields that share a dictionary have equal value types, each one's type is the one that is named for its id
abbrev pub NamesEach : Type 0
NamesEach = (ds : List DictionaryField) (i : ℕ) (d : DictionaryField) → OneType ds → slice_get ds i ≡ Some d → value_type_of ds d.id ≡ Some d.value_type
