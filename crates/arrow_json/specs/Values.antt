-- The JSON of a value (RFC 8259, sections 3 to 7), indices looked up.
use Rattle.std.specs.Prelude.{◌≡◌, ℕ, List, [], ◌∷◌}
use Rattle.json.specs.Json.{Json, null, boolean, string, array, object, Members, no_members, member}
use Rattle.json.specs.Value.{items_of}
use Rattle.arrow_types.specs.Field.{FieldTree, none, more, TypeShape}
use Rattle.arrow_layout.specs.PlainValue.{PlainValue, PlainValues, null_value, bool_value, int_value, binary_value, utf8_value, list_value, struct_value, no_values, more_values, values_of}
use Rattle.arrow_csv.specs.Texts.{Each}
use Rattle.arrow_json.specs.Kinds.{kind_of}
use Rattle.arrow_json.specs.Scalars.{IsNumberJson, bytes_json}

-- the members of an object with these names and values, in this order
abbrev pub members_of : List (List ℕ × Json) → Members
members_of [] = no_members
members_of (m ∷ ms) = member m.0 m.1 (members_of ms)

abbrev mutual
  -- The JSON of a value of this type: for a list an array of its items, for a struct an object with a member for each
  -- of its fields. There is one, except that a floating-point number has every JSON number that parses as it.
  pub IsJson : TypeShape → PlainValue → Json → Type 0
  IsJson type null_value json = json ≡ null
  IsJson type (bool_value b) json = json ≡ boolean b
  IsJson type (int_value z) json = IsNumberJson (kind_of type.tag) z json
  IsJson type (binary_value bytes) json = json ≡ bytes_json (kind_of type.tag) bytes
  IsJson type (utf8_value bytes) json = json ≡ string bytes
  IsJson type (list_value items) json = (js : List Json) × AreItems type.children items js × (json ≡ array (items_of js))
  IsJson type (struct_value parts) json = (ms : List (List ℕ × Json)) × AreMembers type.children parts ms × (json ≡ object (members_of ms))

  -- the JSON of each item of a list, by its one child field
  pub AreItems : FieldTree → PlainValues → List Json → Type 0
  AreItems none items js = js ≡ []
  AreItems (more head children rest) no_values js = js ≡ []
  AreItems (more head children rest) (more_values item items) [] = ⊥
  AreItems (more head children rest) (more_values item items) (json ∷ js) =
      IsJson (record { tag = head.tag; children = children }) item json × AreItems (more head children rest) items js

  -- the name and the JSON of each value of a struct, by its field
  pub AreMembers : FieldTree → PlainValues → List (List ℕ × Json) → Type 0
  AreMembers none parts ms = ms ≡ []
  AreMembers (more head children rest) no_values ms = ms ≡ []
  AreMembers (more head children rest) (more_values part parts) [] = ⊥
  AreMembers (more head children rest) (more_values part parts) (m ∷ ms) =
      (m.0 ≡ head.name) × IsJson (record { tag = head.tag; children = children }) part m.1 × AreMembers rest parts ms

-- an array of the JSON of each of these values
abbrev pub IsArrayOf : TypeShape → List PlainValue → Json → Type 0
IsArrayOf type values json = (js : List Json) × Each (IsJson type) values js × (json ≡ array (items_of js))

-- an object with a member for each of these fields and values
abbrev pub IsObjectOf : FieldTree → List PlainValue → Json → Type 0
IsObjectOf fields values json = (ms : List (List ℕ × Json)) × AreMembers fields (values_of values) ms × (json ≡ object (members_of ms))
