-- What the kept fields say of the types of the values.
use Rattle.std.specs.Prelude.{◌≡◌, ℤ, List, map}
use Rattle.std.specs.List.{AllByRecursion}
use Rattle.arrow_data.specs.Parts.{type_of}
use Rattle.arrow_types.specs.Field.{FieldShape}
use Rattle.arrow_types.specs.Schema.{DictionaryField}
use Rattle.arrow_dict.specs.ValueTypes.{value_field}
use Rattle.arrow_dict.specs.declared.value_fields.ValueFields.TheInside.{Inside}

-- what a kept field says of its id
abbrev pub named : ℤ × FieldShape → DictionaryField
named e = record { id = e.0; value_type = type_of e.1 }

-- what all of them say, by rising id
abbrev pub named_types : Inside → List DictionaryField
named_types v = map named v.fields.entries

-- a kept field is a field of values
abbrev pub IsValueField : ℤ × FieldShape → Type 0
IsValueField e = e.1 ≡ value_field (type_of e.1)

-- all of them are
abbrev pub AreValueFields : Inside → Type 0
AreValueFields v = AllByRecursion IsValueField v.fields.entries
