-- The array made of a built column: its raw values, with the dictionaries that are listed for its ids (Columnar
-- Format, "Dictionary-encoded Layout").
use Rattle.std.specs.Prelude.{◌≡◌, ℕ, ℤ, List, [], ◌∷◌, length, map, ⊤, Option, None, Some}
use Rattle.std.specs.List.{AllByRecursion}
use Rattle.arrow_types.specs.Field.{FieldTree, FieldShape, FieldHeader, none}
use Rattle.arrow_types.specs.Schema.{DictionaryField, field_dictionaries}
use Rattle.arrow_types.specs.declared.field.Encoding.{Encoding}
use Rattle.arrow_data.specs.Column.{Column, ValueList}
use Rattle.arrow_data.specs.Listed.{listed, values_by}
use Rattle.arrow_data.specs.Parts.{IsOfType, type_of}
use Rattle.arrow_layout.specs.PlainValue.{PlainValue, null_value, bool_value, int_value, binary_value, utf8_value, list_value, struct_value}
use Rattle.arrow_layout.specs.Slots.{IsIndex}
use Rattle.arrow_builder.specs.Built.{Built}
use Rattle.arrow_builder.specs.Columns.{AllNodes, child_columns, item_offsets}
use Rattle.arrow_builder.specs.Fields.{field_form}

-- the dictionary that is listed first for a field's id, if there is one, has the type of the field's values
abbrev pub IsTyped : List (ℤ × ValueList) → DictionaryField → Type 0
IsTyped ds d = IsOfType d.value_type (listed ds d.id)

-- the same for the field and all fields below it
abbrev pub AreTyped : List (ℤ × ValueList) → FieldShape → Type 0
AreTyped ds field = AllByRecursion (IsTyped ds) (field_dictionaries field)

-- an index refers to one of `count` values; nothing is required of any other value
abbrev pub RefersTo : ℕ → PlainValue → Type 0
RefersTo count null_value = ⊤
RefersTo count (bool_value b) = ⊤
RefersTo count (int_value z) = IsIndex count z
RefersTo count (binary_value bytes) = ⊤
RefersTo count (utf8_value bytes) = ⊤
RefersTo count (list_value items) = ⊤
RefersTo count (struct_value parts) = ⊤

-- the indices of a column with this encoding have their values
abbrev pub HaveEntries : List (ℤ × ValueList) → Option Encoding → List PlainValue → Type 0
HaveEntries ds None raw = ⊤
HaveEntries ds (Some e) raw = AllByRecursion (RefersTo (length (values_by ds e.id))) raw

-- the same for the column of the field with this head
abbrev pub IsIndexed : List (ℤ × ValueList) → FieldHeader → List PlainValue → Type 0
IsIndexed ds head raw = HaveEntries ds head.encoding raw

-- the same for the column and all columns below it
abbrev pub AreIndexed : List (ℤ × ValueList) → Built → Type 0
AreIndexed ds b = AllNodes (IsIndexed ds) b.field b.raw

-- the dictionary of a field: the values that are listed for its id, of its type
abbrev pub dictionary_by : List (ℤ × ValueList) → DictionaryField → ℤ × ValueList
dictionary_by ds d = (d.id, record { data_type = d.value_type; values = values_by ds d.id })

-- the fields of the nodes below one: none below a dictionary-encoded one
abbrev pub fields_below : Option Encoding → FieldTree → FieldTree
fields_below None fields = fields
fields_below (Some e) fields = none

-- the raw values of all slots of each child, also of those that no slot of the column covers
abbrev pub child_raws : Column → List (List PlainValue)
child_raws c = map (λ (slots : List PlainValue × List PlainValue). slots.0) c.below

-- The array has the type, the encoding and the raw values, and for each dictionary-encoded field, in pre-order, its
-- dictionary. Its offsets begin at 0 and leave no gaps between lists, and its children have the items, or the values
-- of their fields, and no other slots.
pub record IsArrayOf (ds : List (ℤ × ValueList)) (b : Built) (c : Column) : Type 0 where
  pub typed : c.data_type ≡ type_of b.field
  pub encoded : c.encoding ≡ b.field.head.encoding
  pub same : c.raw ≡ b.raw
  pub listed : c.dictionaries ≡ map (dictionary_by ds) (field_dictionaries b.field)
  pub offsets : c.offsets ≡ item_offsets (field_form b.field) b.raw
  pub below : child_raws c ≡ child_columns (field_form b.field) (fields_below b.field.head.encoding b.field.children) 0 b.raw

-- the arrays of columns, one of each
abbrev pub AreArraysOf : List (ℤ × ValueList) → List Built → List Column → Type 0
AreArraysOf ds [] [] = ⊤
AreArraysOf ds [] (c ∷ cs) = ⊥
AreArraysOf ds (b ∷ bs) [] = ⊥
AreArraysOf ds (b ∷ bs) (c ∷ cs) = IsArrayOf ds b c × AreArraysOf ds bs cs
