-- Dictionaries by their ids (Columnar Format, "Dictionary Messages"), and the values that they give to columns and
-- fields.
use Rattle.std.specs.Prelude.{◌≡◌, ◌≤◌, ◌<◌, ℕ, ℤ, ◌≤ℤ◌, List, [], ◌∷◌, length, map, slice_index_or, Option, None, Some, if◌then◌else◌, IsTrue, is_some, false}
use Rattle.std.specs.Ordering.{int_eq}
use Rattle.arrow_types.specs.Field.{FieldTree, FieldHeader}
use Rattle.arrow_types.specs.Schema.{has_encoding}
use Rattle.arrow_types.specs.declared.field.Encoding.{Encoding}
use Rattle.arrow_data.specs.Column.{Column, ValueList}
use Rattle.arrow_data.specs.Parts.{IsOfType, values_in}
use Rattle.arrow_layout.specs.PlainValue.{PlainValue}
use Rattle.arrow_layout.specs.Resolve.{resolve}

-- the dictionary that is listed first for an id, if there is one
abbrev pub listed : List (ℤ × ValueList) → ℤ → Option ValueList
listed [] id = None
listed (d ∷ ds) id = if int_eq d.0 id then Some d.1 else listed ds id

-- the values of that dictionary, or none if no dictionary is listed
abbrev pub values_by : List (ℤ × ValueList) → ℤ → List PlainValue
values_by ds id = values_in (listed ds id)

-- the dictionary that is listed for a field with this encoding
abbrev pub dictionary_for : List (ℤ × ValueList) → Option Encoding → Option ValueList
dictionary_for ds None = None
dictionary_for ds (Some e) = listed ds e.id

-- The listed dictionary of a dictionary-encoded field has the type of the field's values, which has no encoding on
-- any level.
pub record IsNodeFit (ds : List (ℤ × ValueList)) (head : FieldHeader) (children : FieldTree) : Type 0 where
  pub typed : IsOfType (record { tag = head.tag; children = children }) (dictionary_for ds head.encoding)
  pub flat : IsTrue (is_some head.encoding) → has_encoding children ≡ false

-- every raw value of the column resolves by the listed dictionaries, and the results are the resolved values
abbrev pub ResolvesBy : List (ℤ × ValueList) → Column → Type 0
ResolvesBy ds c = map (resolve c.encoding c.data_type.children (values_by ds)) c.raw ≡ map Some c.resolved

-- no id is below an earlier one
abbrev pub Rises : List (ℤ × ValueList) → Type 0
Rises ds = (i j : ℕ) (d : ℤ × ValueList) → i ≤ j → j < length ds → (slice_index_or ds i d).0 ≤ℤ (slice_index_or ds j d).0
