-- When fields make a schema (Schema.fbs, table "Schema"), and which fault applies to fields that make none.
use Rattle.std.specs.Prelude.{◌≡◌, ◌≤◌, ℕ, ℤ, Bool, true, false, not, ◌||◌, ◌&&◌, ◌==◌, List, [], ◌∷◌, ◌++◌, map, filter, slice_get, Option, Some, None, is_some, Result, Ok, Err, nat_lt, if◌then◌else◌, codes}
use Rattle.std.specs.List.{list_any}
use Rattle.std.specs.Option.{is_none}
use Rattle.std.specs.Ordering.{int_eq}
use Rattle.arrow_types.specs.DataType.{TypeId, is_decimal}
use Rattle.arrow_types.specs.DataType as tags
use Rattle.arrow_types.specs.Equality.{is_equal}
use Rattle.arrow_types.specs.Field.{FieldHeader, FieldTree, none, more, TypeShape, FieldShape, levels, count, width}
use Rattle.arrow_types.specs.Notes.{SchemaShape, pair_count}
use Rattle.arrow_types.specs.Stored.{type_code}
use Rattle.arrow_types.specs.declared.fault.SchemaFault.{SchemaFault}
use Rattle.arrow_types.specs.declared.fault.SchemaFault.TheVariants.{TooDeep, TooManyFields, NestedDictionary, SharedIdTypesDiffer, Memory, ByteWidth, TooManyPairs, MapEntries, DecimalRange}

-- whether a field of these, on any level, is dictionary-encoded
abbrev pub has_encoding : FieldTree → Bool
has_encoding none = false
has_encoding (more head children rest) = is_some head.encoding || has_encoding children || has_encoding rest

-- whether a dictionary-encoded field is below a dictionary-encoded field
abbrev pub is_nested : FieldTree → Bool
is_nested none = false
is_nested (more head children rest) = (is_some head.encoding && has_encoding children) || is_nested children || is_nested rest

-- the same for one field and those below it
abbrev pub field_is_nested : FieldShape → Bool
field_is_nested f = (is_some f.head.encoding && has_encoding f.children) || is_nested f.children

-- whether a type has a fixed size, in bytes or in values, that is not a signed 32-bit number (Schema.fbs, tables
-- "FixedSizeBinary" and "FixedSizeList")
abbrev pub is_wide : TypeId → Bool
is_wide (tags.fixed_size_binary width) = nat_lt 2147483647 width
is_wide (tags.fixed_size_list size) = nat_lt 2147483647 size
is_wide _ = false

-- whether a type is a struct type
abbrev pub is_struct : TypeId → Bool
is_struct tags.struct = true
is_struct _ = false

-- whether a type is a map type
abbrev pub is_map : TypeId → Bool
is_map (tags.map _) = true
is_map _ = false

-- whether the first of these fields can be the entries of a map: a struct of two fields, the key and the value, that is not
-- dictionary-encoded (Schema.fbs, table "Map")
abbrev pub are_entries : FieldTree → Bool
are_entries none = false
are_entries (more head children rest) = is_struct head.tag && is_none head.encoding && width children == 2

-- whether a type with these child fields is a map without entries
abbrev pub lacks_entries : TypeId → FieldTree → Bool
lacks_entries tag children = is_map tag && not (are_entries children)

-- whether a type is a decimal with a precision or a scale that its width does not allow (Schema.fbs, table "Decimal")
abbrev pub is_bad_decimal : TypeId → Bool
is_bad_decimal (tags.decimal width precision scale) = not (is_decimal width precision scale)
is_bad_decimal _ = false

-- whether a fault applies to a type with these child fields; the faults that do not concern a single type apply to
-- none
abbrev pub is_flawed : SchemaFault → TypeId → FieldTree → Bool
is_flawed ByteWidth tag children = is_wide tag
is_flawed MapEntries tag children = lacks_entries tag children
is_flawed DecimalRange tag children = is_bad_decimal tag
is_flawed fault tag children = false

-- whether it applies to the type of one of these fields, on any level
abbrev pub some_flawed : SchemaFault → FieldTree → Bool
some_flawed fault none = false
some_flawed fault (more head children rest) = is_flawed fault head.tag children || some_flawed fault children || some_flawed fault rest

-- the same for one field and those below it
abbrev pub field_is_flawed : SchemaFault → FieldShape → Bool
field_is_flawed fault f = is_flawed fault f.head.tag f.children || some_flawed fault f.children

-- what a dictionary-encoded field says of its dictionary: the id, and the type of the values
pub record DictionaryField : Type 0 where
  pub id : ℤ
  pub value_type : TypeShape

-- what the field with this head says of its dictionary, if it is dictionary-encoded
abbrev pub dictionary_of : FieldHeader → FieldTree → List DictionaryField
dictionary_of head children =
    elim (head.encoding) [ None ↦ [] | Some e ↦ record { id = e.id; value_type = record { tag = head.tag; children = children } } ∷ [] ]

-- the dictionary-encoded fields in pre-order: a field before its children, these before the fields after it
abbrev pub dictionary_fields : FieldTree → List DictionaryField
dictionary_fields none = []
dictionary_fields (more head children rest) = dictionary_of head children ++ dictionary_fields children ++ dictionary_fields rest

-- those of one field and of the fields below it
abbrev pub field_dictionaries : FieldShape → List DictionaryField
field_dictionaries f = dictionary_of f.head f.children ++ dictionary_fields f.children

-- each number once, in the order of first occurrence
abbrev pub each_once : List ℤ → List ℤ
each_once [] = []
each_once (x ∷ xs) = x ∷ filter (λ y. not (int_eq y x)) (each_once xs)

-- the ids of all dictionaries, in pre-order, each once
abbrev pub dictionary_ids : FieldTree → List ℤ
dictionary_ids s = each_once (map (λ (d : DictionaryField). d.id) (dictionary_fields s))

-- whether two fields share a dictionary and have unequal value types
abbrev pub clash : DictionaryField → DictionaryField → Bool
clash d e = int_eq d.id e.id && not (is_equal type_code d.value_type e.value_type)

-- whether some two of the fields clash
abbrev pub types_differ : List DictionaryField → Bool
types_differ [] = false
types_differ (d ∷ ds) = list_any (clash d) ds || types_differ ds

-- fields that share a dictionary have equal value types
abbrev pub OneType : List DictionaryField → Type 0
OneType ds = (i j : ℕ) (d e : DictionaryField) → slice_get ds i ≡ Some d → slice_get ds j ≡ Some e → d.id ≡ e.id → d.value_type ≡ e.value_type

-- the fields' ids, each once, with equal value types for fields that share a dictionary
pub record AreIdsOfOneType (ids : List ℤ) (ds : List DictionaryField) : Type 0 where
  pub once : ids ≡ each_once (map (λ (d : DictionaryField). d.id) ds)
  pub one_type : types_differ ds ≡ false

-- at most 32 levels, at most 65,536 fields, no dictionary below a dictionary, and no type to which a fault applies by itself
pub record IsBounded (s : FieldTree) : Type 0 where
  pub shallow : levels s ≤ 32
  pub few : count s ≤ 65536
  pub flat : is_nested s ≡ false
  pub flawless : (fault : SchemaFault) → some_flawed fault s ≡ false

-- what holds for the fields of every schema
pub record IsSchema (s : FieldTree) : Type 0 where
  pub bounded : IsBounded s
  pub one_type : OneType (dictionary_fields s)

-- what holds for every schema: the facts about its fields, and that it has at most 65,536 pairs
pub record IsNoted (s : SchemaShape) : Type 0 where
  pub schema : IsSchema s.fields
  pub few_pairs : pair_count s ≤ 65536

-- the ids that a schema keeps in addition to its fields
pub record IsKept (ids : List ℤ) (s : SchemaShape) : Type 0 where
  pub noted : IsNoted s
  pub listed : ids ≡ dictionary_ids s.fields

-- the first fault that applies, in the order of the faults' numbers, or this one if none of those before `Memory`
-- applies
abbrev pub fault_or : Option SchemaFault → FieldTree → Option SchemaFault
fault_or other s =
    if nat_lt 32 (levels s) then Some TooDeep else
    (if nat_lt 65536 (count s) then Some TooManyFields else
    (if is_nested s then Some NestedDictionary else
    (if types_differ (dictionary_fields s) then Some SharedIdTypesDiffer else other)))

-- the faults after `Memory`: a width over the limit, more than 65,536 pairs, a map without entries, and a decimal out
-- of its range
abbrev pub late_fault : SchemaShape → Option SchemaFault
late_fault s =
    if some_flawed ByteWidth s.fields then Some ByteWidth else
    (if nat_lt 65536 (pair_count s) then Some TooManyPairs else
    (if some_flawed MapEntries s.fields then Some MapEntries else
    (if some_flawed DecimalRange s.fields then Some DecimalRange else None)))

-- the first of the faults that apply to fields and pairs; none if they make a schema
abbrev pub fault_of : SchemaShape → Option SchemaFault
fault_of s = fault_or (late_fault s) s.fields

-- The result for fields and pairs: the schema of exactly these if no fault applies, else the first fault that does.
-- `Memory` is returned only for fields to which no fault before it applies and one of which, on some level, is
-- dictionary-encoded.
abbrev pub Judges : Result SchemaShape SchemaFault → SchemaShape → Type 0
Judges (Ok schema) s = (fault_of s ≡ None) × (schema ≡ s)
Judges (Err Memory) s = (fault_or None s.fields ≡ None) × (has_encoding s.fields ≡ true)
Judges (Err fault) s = fault_of s ≡ Some fault

-- the number of a fault
abbrev pub number_of : SchemaFault → ℕ
number_of TooDeep = 1
number_of TooManyFields = 2
number_of NestedDictionary = 3
number_of SharedIdTypesDiffer = 4
number_of Memory = 5
number_of ByteWidth = 6
number_of TooManyPairs = 7
number_of MapEntries = 8
number_of DecimalRange = 9

-- the text of a fault
abbrev pub words_of : SchemaFault → List ℕ
words_of TooDeep = codes "more than 32 levels of fields"
words_of TooManyFields = codes "more than 65,536 fields"
words_of NestedDictionary = codes "a dictionary below a dictionary"
words_of SharedIdTypesDiffer = codes "two value types for one dictionary id"
words_of Memory = codes "out of memory"
words_of ByteWidth = codes "a fixed size of more than 2,147,483,647"
words_of TooManyPairs = codes "more than 65,536 pairs of metadata"
words_of MapEntries = codes "a map whose child is not a struct of two fields"
words_of DecimalRange = codes "a decimal of a precision or a scale out of range"
