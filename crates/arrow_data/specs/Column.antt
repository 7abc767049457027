-- What an array and a dictionary are, apart from how they are stored (Columnar Format, "Terminology").
use Rattle.std.specs.Prelude.{◌≡◌, ◌≤◌, ◌<◌, ◌+◌, ◌*◌, ◌-◌, ◌^◌, ℕ, zero, suc, ℤ, pos, false, List, [], ◌∷◌, ◌++◌, length, map, take, drop, get_or, ⊤, Option, None, Some, IsTrue, is_some, slice_get, refl}
use Rattle.std.specs.Coded.{Coded, code_by, coded×, coded_ℕ, coded_ℤ, coded_list, coded_option}
use Rattle.std.specs.List.{AllByRecursion}
use Rattle.arrow_types.specs.Field.{FieldTree, none, more, TypeShape, levels}
use Rattle.arrow_types.specs.Schema.{DictionaryField, dictionary_fields, has_encoding}
use Rattle.arrow_types.specs.Stored.{type_code}
use Rattle.arrow_types.specs.contracts.field.Encoding.{the_row as encoding_row}
use Rattle.arrow_types.specs.declared.field.Encoding.{Encoding}
use Rattle.arrow_layout.specs.Fits.{AllFit, plain_type}
use Rattle.arrow_layout.specs.Form.{IsLists, node_form}
use Rattle.arrow_layout.specs.PlainValue.{PlainValue, value_at, null_value, int_value, list_value, struct_value, values_of, is_null_value, field_value}
use Rattle.arrow_layout.specs.Resolve.{resolve}
use Rattle.arrow_layout.specs.Stored.{value_code}
use Rattle.arrow_layout.specs.declared.form.Form.{Form}
use Rattle.arrow_layout.specs.declared.form.Form.TheVariants as forms

-- What a dictionary is to contracts: the type of its values, and the values.
pub record ValueList : Type 0 where
  pub data_type : TypeShape
  pub values : List PlainValue

-- how the logic encodes dictionaries
abbrev pub value_list_code : Coded ValueList
value_list_code = code_by (TypeShape × List PlainValue) (coded× type_code (coded_list value_code))
    (λ d. (d.data_type, d.values)) (λ p. record { data_type = p.0; values = p.1 }) (λ _. refl)

-- What an array is to contracts: its type, its encoding, and the value of each slot, raw (the index, if the array is
-- dictionary-encoded) and resolved. In addition: for each dictionary-encoded field of it in pre-order, the id and the
-- dictionary; for lists the offsets, one more than there are slots (Columnar Format, "Variable-size List Layout");
-- and for lists and structs the slots of each child, raw and resolved, including those that no slot shows.
pub record Column : Type 0 where
  pub data_type : TypeShape
  pub encoding : Option Encoding
  pub raw : List PlainValue
  pub resolved : List PlainValue
  pub dictionaries : List (ℤ × ValueList)
  pub offsets : List ℕ
  pub below : List (List PlainValue × List PlainValue)

-- how the logic encodes arrays
abbrev pub column_code : Coded Column
column_code =
    code_by (TypeShape × (Option Encoding × (List PlainValue × (List PlainValue × (List (ℤ × ValueList) × (List ℕ × List (List PlainValue × List PlainValue)))))))
    (coded× type_code (coded× (coded_option encoding_row.coded) (coded× (coded_list value_code) (coded× (coded_list value_code)
    (coded× (coded_list (coded× coded_ℤ value_list_code)) (coded× (coded_list coded_ℕ) (coded_list (coded× (coded_list value_code) (coded_list value_code)))))))))
    (λ c. (c.data_type, (c.encoding, (c.raw, (c.resolved, (c.dictionaries, (c.offsets, c.below)))))))
    (λ p. record { data_type = p.0; encoding = p.1.0; raw = p.1.1.0; resolved = p.1.1.1.0; dictionaries = p.1.1.1.1.0; offsets = p.1.1.1.1.1.0; below = p.1.1.1.1.1.1 })
    (λ _. refl)

-- a column of values that hold no others
abbrev pub plain_column : TypeShape → List PlainValue → Column
plain_column data_type values = record { data_type = data_type; encoding = None; raw = values; resolved = values; dictionaries = []; offsets = []; below = [] }

-- the slots of a column, raw and resolved
abbrev pub slots_of : Column → List PlainValue × List PlainValue
slots_of c = (c.raw, c.resolved)

-- An array is higher than its dictionary, which is higher than the arrays of its values, and these are higher than
-- their children.
abbrev pub index_levels : Option Encoding → ℕ
index_levels None = 0
index_levels (Some e) = 2

-- the height of an array: three steps for each level of its children, two more for its dictionary
abbrev pub column_size : Column → ℕ
column_size c = 3 * levels c.data_type.children + index_levels c.encoding

-- the height of a dictionary: one step above the arrays of its values, and below the arrays that refer to it
abbrev pub value_list_size : ValueList → ℕ
value_list_size d = 3 * levels d.data_type.children + 1

-- the columns have the types and the encodings of the fields
abbrev pub AreOf : FieldTree → List Column → Type 0
AreOf none [] = ⊤
AreOf none (c ∷ cs) = ⊥
AreOf (more head children rest) [] = ⊥
AreOf (more head children rest) (c ∷ cs) = (c.data_type ≡ record { tag = head.tag; children = children }) × (c.encoding ≡ head.encoding) × AreOf rest cs

-- how many slots each column has
abbrev pub counts_of : List Column → List ℕ
counts_of cs = map (λ (c : Column). length c.raw) cs

-- the dictionaries of all columns, joined in order
abbrev pub listed_of : List Column → List (ℤ × ValueList)
listed_of [] = []
listed_of (c ∷ cs) = c.dictionaries ++ listed_of cs

-- what a listed dictionary is for: its id, and the type of its values
abbrev pub field_of_listed : ℤ × ValueList → DictionaryField
field_of_listed d = record { id = d.0; value_type = d.1.data_type }

-- The dictionaries that a column with this encoding and this type refers to, by id and type: a dictionary-encoded
-- column refers only to its own dictionary, of its own type; any other refers to those of its fields, in pre-order.
abbrev pub column_dictionaries : Option Encoding → TypeShape → List DictionaryField
column_dictionaries None t = dictionary_fields t.children
column_dictionaries (Some e) t = record { id = e.id; value_type = t } ∷ []

-- each id has the values that are listed for it
abbrev pub Agree : List (ℤ × ValueList) → (ℤ → List PlainValue) → Type 0
Agree listed dictionaries = AllByRecursion (λ (d : ℤ × ValueList). dictionaries d.0 ≡ d.1.values) listed

-- what is known of every dictionary: its values fit its type
pub record IsValueList (d : ValueList) : Type 0 where
  pub flat : has_encoding d.data_type.children ≡ false
  pub few : length d.values ≤ 2 ^ 62
  pub fits : AllFit d.data_type None d.values

-- What is known of every array. Each raw value fits the type, or the type of the indices, and each resolved value
-- fits the type without an encoding on any level. The resolved values are what the raw ones resolve to by all
-- dictionaries that have the listed values; without an encoding on any level each raw value resolves to itself. The
-- array lists a dictionary for each of its dictionary-encoded fields, by the field's id and of its type, and no
-- other.
pub record IsColumn (c : Column) : Type 0 where
  pub few : length c.raw ≤ 2147483647
  pub fits : AllFit c.data_type c.encoding c.raw
  pub resolved_fits : AllFit (plain_type c.data_type) None c.resolved
  pub long : length c.resolved ≡ length c.raw
  pub flat : IsTrue (is_some c.encoding) → has_encoding c.data_type.children ≡ false
  pub plain : c.encoding ≡ None → has_encoding c.data_type.children ≡ false → c.resolved ≡ c.raw
  pub resolves : (dictionaries : ℤ → List PlainValue) → Agree c.dictionaries dictionaries
      → map (resolve c.encoding c.data_type.children dictionaries) c.raw ≡ map Some c.resolved
  pub lists : map field_of_listed c.dictionaries ≡ column_dictionaries c.encoding c.data_type
  pub listed_known : AllByRecursion (λ (d : ℤ × ValueList). IsValueList d.1) c.dictionaries

-- the values from index `start` up to index `stop`
abbrev pub values_from : List PlainValue → ℕ → ℕ → List PlainValue
values_from values start stop = take (stop - start) (drop start values)

-- the raw values of the columns at one slot
abbrev pub row_of : List Column → ℕ → List PlainValue
row_of cs i = map (λ (c : Column). value_at c.raw i) cs

-- the resolved values of the columns at one slot
abbrev pub resolved_row_of : List Column → ℕ → List PlainValue
resolved_row_of cs i = map (λ (c : Column). value_at c.resolved i) cs

-- The items of slot i are the child's values from `start` up to `stop`: offset i and the one after it, even if there
-- are no items. The child has all its slots and its dictionaries.
pub record HasItems (c : Column) (i start stop : ℕ) (child : Column) : Type 0 where
  pub typed : AreOf c.data_type.children (child ∷ [])
  pub whole : c.below ≡ slots_of child ∷ []
  pub listed : child.dictionaries ≡ c.dictionaries
  pub starts : start ≡ get_or c.offsets i 0
  pub stops : stop ≡ get_or c.offsets (i + 1) 0
  pub ordered : start ≤ stop
  pub inside : stop ≤ length child.raw
  pub long : length child.resolved ≡ length child.raw
  pub same : value_at c.raw i ≡ list_value (values_of (values_from child.raw start stop))
  pub same_resolved : value_at c.resolved i ≡ list_value (values_of (values_from child.resolved start stop))

-- slot i of a struct is slot i of each child
pub record HasParts (c : Column) (i : ℕ) (children : List Column) : Type 0 where
  pub typed : AreOf c.data_type.children children
  pub longer : AllByRecursion (λ (d : Column). length c.raw ≤ length d.raw) children
  pub same : value_at c.raw i ≡ struct_value (values_of (row_of children i))
  pub same_resolved : value_at c.resolved i ≡ struct_value (values_of (resolved_row_of children i))

-- the type and the encoding of field k
abbrev pub type_of_field : FieldTree → ℕ → Option (TypeShape × Option Encoding)
type_of_field none k = None
type_of_field (more head children rest) zero = Some (record { tag = head.tag; children = children }, head.encoding)
type_of_field (more head children rest) (suc k) = type_of_field rest k

-- the fields of a struct; a column of another form has none
abbrev pub struct_fields_of : Form → FieldTree → FieldTree
struct_fields_of forms.Nulls children = none
struct_fields_of forms.Bits children = none
struct_fields_of (forms.Numbers number) children = none
struct_fields_of (forms.Bytes width) children = none
struct_fields_of (forms.Texts width) children = none
struct_fields_of (forms.FixedBytes width) children = none
struct_fields_of (forms.Lists list) children = none
struct_fields_of forms.Structs children = children

-- the fields that have a value in each slot of the column; a dictionary-encoded column has none
abbrev pub struct_fields : Column → FieldTree
struct_fields c = struct_fields_of (node_form c.data_type.tag c.encoding) c.data_type.children

-- the dictionaries of field k, among those that are listed for all the fields in order
abbrev pub dictionaries_of_field : FieldTree → ℕ → List (ℤ × ValueList) → List (ℤ × ValueList)
dictionaries_of_field none k listed = []
dictionaries_of_field (more head children rest) zero listed = take (length (column_dictionaries head.encoding (record { tag = head.tag; children = children }))) listed
dictionaries_of_field (more head children rest) (suc k) listed = dictionaries_of_field rest k (drop (length (column_dictionaries head.encoding (record { tag = head.tag; children = children }))) listed)

-- the child has the type of field k, all its slots, its dictionaries, and its value in each slot that is not null
pub record HasField (c : Column) (k : ℕ) (child : Column) : Type 0 where
  pub typed : type_of_field (struct_fields c) k ≡ Some (child.data_type, child.encoding)
  pub whole : slice_get c.below k ≡ Some (slots_of child)
  pub listed : child.dictionaries ≡ dictionaries_of_field (struct_fields c) k c.dictionaries
  pub longer : length c.raw ≤ length child.raw
  pub same : (i : ℕ) → i < length c.raw → is_null_value (value_at c.raw i) ≡ false
      → (field_value k (value_at c.raw i) ≡ value_at child.raw i) × (field_value k (value_at c.resolved i) ≡ value_at child.resolved i)

-- slots hold structs
abbrev pub IsStruct : Column → Type 0
IsStruct c = node_form c.data_type.tag c.encoding ≡ forms.Structs

-- the children are those of the struct's fields, and their slots and their dictionaries are the column's
pub record HasFields (c : Column) (children : List Column) : Type 0 where
  pub is_struct : IsStruct c
  pub typed : AreOf c.data_type.children children
  pub whole : map slots_of children ≡ c.below
  pub listed : listed_of children ≡ c.dictionaries
  pub each : (k : ℕ) (child : Column) → slice_get children k ≡ Some child → HasField c k child

-- slots hold lists of items
abbrev pub IsList : Column → Type 0
IsList c = IsLists (node_form c.data_type.tag c.encoding)

-- the child is the one that contains the items of the column's lists, with all its slots and its dictionaries
pub record HasChild (c : Column) (child : Column) : Type 0 where
  pub is_list : IsList c
  pub typed : AreOf c.data_type.children (child ∷ [])
  pub whole : c.below ≡ slots_of child ∷ []
  pub listed : child.dictionaries ≡ c.dictionaries
  pub same : (i : ℕ) → i < length c.raw → is_null_value (value_at c.raw i) ≡ false → HasItems c i (get_or c.offsets i 0) (get_or c.offsets (i + 1) 0) child

-- slot i holds no index: the column is not dictionary-encoded, or the slot is null
abbrev pub HasNoIndex : Column → ℕ → Type 0
HasNoIndex c i = IsTrue (is_some c.encoding) → value_at c.raw i ≡ null_value

-- the column's indices refer to the values of the dictionary
pub record HasDictionary (c : Column) (d : ValueList) : Type 0 where
  pub typed : d.data_type ≡ c.data_type
  pub known : IsValueList d
  pub listed : (e : Encoding) × (c.encoding ≡ Some e) × (c.dictionaries ≡ (e.id, d) ∷ [])

-- Value i of a dictionary is at an index of a column of its type and without an encoding. All of the column's values
-- are the dictionary's values from value `i - place` on.
pub record HasValue (d : ValueList) (i : ℕ) (values : Column) (place : ℕ) : Type 0 where
  pub inside : place < length values.raw
  pub typed : values.data_type ≡ d.data_type
  pub plain : values.encoding ≡ None
  pub same : value_at d.values i ≡ value_at values.raw place
  pub follow : (k : ℕ) → place + k < length values.raw → (i + k < length d.values) × (value_at d.values (i + k) ≡ value_at values.raw (place + k))
  pub starts : place ≤ i
  pub whole : (k : ℕ) → k < length values.raw → value_at d.values (i - place + k) ≡ value_at values.raw k

-- Slot i holds an index. The slot `place` of another column, of the same type and without an encoding, holds the
-- value with this number in the column's dictionary: the resolved value of slot i.
pub record HasEntry (c : Column) (i : ℕ) (values : Column) (place : ℕ) : Type 0 where
  pub encoded : IsTrue (is_some c.encoding)
  pub full : is_null_value (value_at c.raw i) ≡ false
  pub inside : place < length values.raw
  pub typed : values.data_type ≡ c.data_type
  pub plain : values.encoding ≡ None
  pub same : value_at c.resolved i ≡ value_at values.raw place
  pub index : ℕ
  pub means : value_at c.raw i ≡ int_value (pos index)
  pub found : (d : ValueList) → HasDictionary c d → HasValue d index values place
