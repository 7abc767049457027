-- The types of the values of dictionaries, as the fields of a schema name them (Schema.fbs, table "DictionaryEncoding").
use Rattle.std.specs.Prelude.{◌≡◌, ℤ, true, List, [], ◌∷◌, Option, None, Some, if◌then◌else◌, refl}
use Rattle.std.specs.Coded.{Coded, code_by, coded×, coded_ℤ, coded_list}
use Rattle.std.specs.Ordering.{int_eq}
use Rattle.arrow_types.specs.Field.{FieldShape, TypeShape}
use Rattle.arrow_types.specs.Schema.{DictionaryField}
use Rattle.arrow_types.specs.Stored.{type_code}

-- how the logic stores such fields
abbrev pub value_types_code : Coded (List DictionaryField)
value_types_code = coded_list (code_by (ℤ × TypeShape) (coded× coded_ℤ type_code)
    (λ d. (d.id, d.value_type)) (λ p. record { id = p.0; value_type = p.1 }) (λ _. refl))

-- the value type that the first of these fields with the id names, if there is one
abbrev pub value_type_of : List DictionaryField → ℤ → Option TypeShape
value_type_of [] id = None
value_type_of (d ∷ ds) id = if int_eq d.id id then Some d.value_type else value_type_of ds id

-- for each id both lists of fields name the same type, or neither names one
abbrev pub NameSame : List DictionaryField → List DictionaryField → Type 0
NameSame ds es = (id : ℤ) → value_type_of ds id ≡ value_type_of es id

-- a field of values of the type, which has no name and no encoding
abbrev pub value_field : TypeShape → FieldShape
value_field t = record { head = record { name = []; nullable = true; tag = t.tag; encoding = None }; children = t.children }
