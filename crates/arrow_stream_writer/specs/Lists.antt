-- The dictionaries of columns by their ids (Columnar Format, "Dictionary-encoded Layout").
use Rattle.std.specs.Prelude.{◌≡◌, ℤ, true, false, List, [], ◌∷◌, ◌++◌, Option, None, Some, Result, Ok, Err, option_map, ⊤, if◌then◌else◌}
use Rattle.std.specs.BTreeMap.{get}
use Rattle.std.specs.List.{AllByRecursion}
use Rattle.std.specs.Ordering.{int_cmp, int_eq}
use Rattle.arrow_types.specs.Field.{FieldTree, TypeShape}
use Rattle.arrow_types.specs.Schema.{DictionaryField, dictionary_fields, dictionary_ids}
use Rattle.arrow_types.specs.declared.field.Encoding.{Encoding}
use Rattle.arrow_data.specs.Batch.{Table}
use Rattle.arrow_data.specs.Column.{AreOf, Column, ValueList, listed_of}
use Rattle.arrow_layout.specs.PlainValue.{PlainValue}
use Rattle.arrow_dict.specs.ValueTypes.{value_type_of}
use Rattle.arrow_stream_laws.specs.Plan.{value_type}
use Rattle.arrow_stream_laws.specs.Rows.{IsKnown, has_one_list, list_of}
use Rattle.arrow_stream_writer.specs.declared.lists.BatchLists.{BatchLists}
use Rattle.arrow_stream_writer.specs.declared.lists.ListsFault.{ListsFault}
use Rattle.arrow_stream_writer.specs.declared.lists.ListsFault.TheVariants.{DictionariesDiffer, Memory}

-- the dictionary that was found for an id
abbrev pub dictionary_in : BatchLists → ℤ → Option ValueList
dictionary_in lists id = option_map (λ d. d.now) (get int_cmp lists.lists id)

-- the values that are listed first for an id, if there are any
abbrev pub first_values : List (ℤ × ValueList) → ℤ → Option (List PlainValue)
first_values [] id = None
first_values (d ∷ ds) id = if int_eq d.0 id then Some d.1.values else first_values ds id

-- each of these dictionaries is equal to the one that is listed first for its id
abbrev pub AreFirst : List (ℤ × ValueList) → List (ℤ × ValueList) → Type 0
AreFirst all listed = AllByRecursion (λ (d : ℤ × ValueList). first_values all d.0 ≡ Some d.1.values) listed

-- for the id of each of these dictionary fields the fields name its type
abbrev pub AllNamed : List DictionaryField → List DictionaryField → Type 0
AllNamed fields ds = AllByRecursion (λ (d : DictionaryField). value_type_of fields d.id ≡ Some d.value_type) ds

-- the same for a column of this type and encoding
abbrev pub IsNamedBy : List DictionaryField → TypeShape → Option Encoding → Type 0
IsNamedBy fields data_type None = AllNamed fields (dictionary_fields data_type.children)
IsNamedBy fields data_type (Some e) = value_type_of fields e.id ≡ Some data_type

-- for the dictionaries of each column the fields name their types
abbrev pub AreNamed : List DictionaryField → List Column → Type 0
AreNamed fields cs = AllByRecursion (λ (c : Column). IsNamedBy fields c.data_type c.encoding) cs

-- The values that were found are those that are listed first for each id, with the type that the fields name for it,
-- and all that are listed for one id are equal.
pub record AreFound (fields : List DictionaryField) (listed : List (ℤ × ValueList)) (find : ℤ → Option ValueList) : Type 0 where
  pub first : (id : ℤ) → option_map (λ (d : ValueList). d.values) (find id) ≡ first_values listed id
  pub one : AreFirst listed listed
  pub typed : (id : ℤ) (d : ValueList) → find id ≡ Some d → value_type_of fields id ≡ Some d.data_type

-- a result for the dictionary of an id, given those that were found before: it was found too, or a different one of
-- its id was
abbrev pub AddsList : ℤ → ValueList → (ℤ → Option ValueList) → Result (Unit {0}) ListsFault → (ℤ → Option ValueList) → Type 0
AddsList id d before (Ok done) after = (fields : List DictionaryField) (listed : List (ℤ × ValueList)) → value_type_of fields id ≡ Some d.data_type
    → AreFound fields listed before → AreFound fields (listed ++ (id, d) ∷ []) after
AddsList id d before (Err DictionariesDiffer) after = (fields : List DictionaryField) (listed : List (ℤ × ValueList)) → AreFound fields listed before
    → AreFirst (listed ++ (id, d) ∷ []) (listed ++ (id, d) ∷ []) → ⊥
AddsList id d before (Err Memory) after = ⊤

-- a result for columns, given the dictionaries that were found before: theirs were found too, or two of one id differ
abbrev pub Gathers : List Column → (ℤ → Option ValueList) → Result (Unit {0}) ListsFault → (ℤ → Option ValueList) → Type 0
Gathers cs before (Ok done) after = (fields : List DictionaryField) (listed : List (ℤ × ValueList)) → AreNamed fields cs
    → AreFound fields listed before → AreFound fields (listed ++ listed_of cs) after
Gathers cs before (Err DictionariesDiffer) after = (fields : List DictionaryField) (listed : List (ℤ × ValueList)) → AreNamed fields cs
    → AreFound fields listed before → AreFirst (listed ++ listed_of cs) (listed ++ listed_of cs) → ⊥
Gathers cs before (Err Memory) after = ⊤

-- the columns are those of the fields of the column, and its dictionaries are theirs
pub record HaveBelow (c : Column) (cs : List Column) : Type 0 where
  pub typed : AreOf c.data_type.children cs
  pub listed : listed_of cs ≡ c.dictionaries

-- the list of an id in a batch, as a dictionary of the type that the schema names for its values
abbrev pub dictionary_for : FieldTree → Table → ℤ → ValueList
dictionary_for fields t id = record { data_type = value_type fields id; values = list_of t id }

-- The dictionaries that were found are those of the batch: its columns have one list for each id, and for each id of
-- its schema this list was found, with the type that the schema names for its values.
pub record AreListsOf (t : Table) (find : ℤ → Option ValueList) : Type 0 where
  pub known : IsKnown t
  pub one : has_one_list t ≡ true
  pub each : AllByRecursion (λ id. find id ≡ Some (dictionary_for t.schema.fields t id)) (dictionary_ids t.schema.fields)

-- a result for a batch: its dictionaries, or that two of one id differ
abbrev pub FindsLists : Result BatchLists ListsFault → Table → Type 0
FindsLists (Ok lists) t = AreListsOf t (dictionary_in lists)
FindsLists (Err DictionariesDiffer) t = has_one_list t ≡ false
FindsLists (Err Memory) t = ⊤
