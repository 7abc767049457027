-- What the program's encoded fields say of their dictionaries, and what is derived from them.
use Rattle.std.specs.Prelude.{◌≡◌, ℤ, Bool, true, false, ◌||◌, List, map, Option, Some, None, Vec}
use Rattle.std.specs.List.{list_any}
use Rattle.std.specs.declared.alloc.Global.{Global}
use Rattle.arrow_types.specs.Field.{FieldHeader, FieldTree, none, more, FieldShape}
use Rattle.arrow_types.specs.Schema.{DictionaryField, dictionary_of, clash, types_differ, AreIdsOfOneType}
use Rattle.arrow_types.specs.View.{type_view}
use Rattle.arrow_types.specs.declared.dictionaries.Encoded.{Encoded}

-- what one that the program found says
abbrev pub encoded_view : Encoded → DictionaryField
encoded_view e = record { id = e.id; value_type = type_view e.value_type.now }

-- the same for each of a list
abbrev pub encoded_views : List Encoded → List DictionaryField
encoded_views es = map encoded_view es

-- the ids of fields that have one type for each id, or `None` if two fields differ
abbrev pub GivesIds : Option (Vec ℤ Global) → List DictionaryField → Type 0
GivesIds None ds = types_differ ds ≡ true
GivesIds (Some v) ds = AreIdsOfOneType v.items ds

-- whether the field with this head clashes with d
abbrev pub head_clashes : DictionaryField → FieldHeader → FieldTree → Bool
head_clashes d head children = list_any (clash d) (dictionary_of head children)

-- whether one of the fields, on any level, clashes with d
abbrev pub some_clash : DictionaryField → FieldTree → Bool
some_clash d none = false
some_clash d (more head children rest) = head_clashes d head children || some_clash d children || some_clash d rest

-- the same for one field and those below it
abbrev pub field_clashes : DictionaryField → FieldShape → Bool
field_clashes d f = head_clashes d f.head f.children || some_clash d f.children

-- whether the field with this head clashes with one of all fields
abbrev pub head_differs : FieldTree → FieldHeader → FieldTree → Bool
head_differs all head children = list_any (λ d. some_clash d all) (dictionary_of head children)

-- whether one of the fields, on any level, clashes with one of all fields
abbrev pub some_differ : FieldTree → FieldTree → Bool
some_differ all none = false
some_differ all (more head children rest) = head_differs all head children || some_differ all children || some_differ all rest

-- the same for one field and those below it
abbrev pub field_differs : FieldTree → FieldShape → Bool
field_differs all f = head_differs all f.head f.children || some_differ all f.children
