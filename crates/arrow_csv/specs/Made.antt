-- What is looked up or made for a column before the rows that contain its fields. Only the crate's private contracts use
-- these.
use Rattle.std.specs.Prelude.{◌≡◌, ◌≤◌, ◌<◌, ◌+◌, ◌++◌, ℕ, zero, suc, List, [], ◌∷◌, codes, length, map, get_or, slice_range, ⊤}
use Rattle.arrow_types.specs.Field.{FieldTree, none, more}
use Rattle.arrow_data.specs.Column.{Column, HasDictionary, ValueList}
use Rattle.arrow_data.specs.View.{HoldLists, HoldStructs}
use Rattle.arrow_layout.specs.PlainValue.{value_at}
use Rattle.arrow_layout.specs.declared.offsets.ItemPlaces.{ItemPlaces}
use Rattle.arrow_csv.specs.Texts.{IsItemText, IsSomeField}
use Rattle.arrow_csv.specs.declared.column_text.DictionaryTexts.{DictionaryTexts}
use Rattle.arrow_csv.specs.declared.column_text.Prepared.{Prepared}
use Rattle.arrow_csv.specs.declared.column_text.Prepared.TheVariants.{Nothing, Entries, Items, Parts}
use Rattle.arrow_csv.specs.declared.struct_text.FieldText.{FieldText}

-- a field of value n of a dictionary, which is not a null
abbrev pub IsEntryField : ValueList → ℕ → List ℕ → Type 0
IsEntryField d n field = IsSomeField d.data_type (value_at d.values n) field

-- field n lies between offset n and the next one
pub record IsField (d : ValueList) (bytes places : List ℕ) (n : ℕ) : Type 0 where
  pub ordered : get_or places n 0 ≤ get_or places (n + 1) 0
  pub inside : get_or places (n + 1) 0 ≤ length bytes
  pub same : IsEntryField d n (slice_range bytes (get_or places n 0) (get_or places (n + 1) 0))

-- the first `count` fields lie so, and the last of them ends with the bytes
pub record AreFirst (d : ValueList) (bytes places : List ℕ) (count : ℕ) : Type 0 where
  pub long : length places ≡ count + 1
  pub last : get_or places count 0 ≡ length bytes
  pub each : (n : ℕ) → n < count → IsField d bytes places n

-- these are the fields of the values of a dictionary
abbrev pub AreFieldsOf : ValueList → DictionaryTexts → Type 0
AreFieldsOf d fields = AreFirst d fields.bytes.items fields.places.items (length d.values)

-- what was made for a column that refers to this dictionary: the fields of its values, or nothing
abbrev pub IsPreparedBy : ValueList → Prepared → Type 0
IsPreparedBy d Nothing = ⊤
IsPreparedBy d (Entries fields) = AreFieldsOf d fields.value
IsPreparedBy d (Items lists) = ⊥
IsPreparedBy d (Parts structs) = ⊥

-- what was looked up or made for a column
abbrev pub IsPreparedFor : Column → Prepared → Type 0
IsPreparedFor c Nothing = ⊤
IsPreparedFor c (Entries fields) = (d : ValueList) × HasDictionary c d × AreFieldsOf d fields.value
IsPreparedFor c (Items lists) = lists.value ≡ c
IsPreparedFor c (Parts structs) = structs.value ≡ c

-- ---- lists

-- the items of the column's lists lie at these places of this column
pub record HasItemsAt (c : Column) (validity : List ℕ) (places : ItemPlaces) (items : Column) : Type 0 where
  pub held : HoldLists c places.form validity places.offsets.now items
  pub count : places.len ≡ length c.raw
  pub top : places.top ≡ length items.raw
  pub long : length items.resolved ≡ length items.raw

-- ---- structs

-- what comes between the texts of the fields or items before number k and its own
abbrev pub separator : ℕ → List ℕ
separator zero = []
separator (suc k) = codes ";"

-- the text before the values of field k of this name
abbrev pub head_of : ℕ → List ℕ → List ℕ
head_of k name = separator k ++ name ++ codes "="

-- the fields from number k on have the heads of these fields
abbrev pub AreHeads : ℕ → FieldTree → List FieldText → Type 0
AreHeads k none texts = texts ≡ []
AreHeads k (more head children rest) [] = ⊥
AreHeads k (more head children rest) (text ∷ texts) = (text.head.items ≡ head_of k head.name) × AreHeads (suc k) rest texts

-- the columns that have the fields' values
abbrev pub columns_of : List FieldText → List Column
columns_of texts = map (λ (f : FieldText). f.slots) texts

-- the columns and heads are those of the fields of the column's structs
abbrev pub HasFieldTexts : Column → List ℕ → List FieldText → Type 0
HasFieldTexts c validity texts = HoldStructs c validity (columns_of texts) × AreHeads 0 c.data_type.children texts

-- the texts of the fields' values in slot i, each after its head
abbrev pub AreHeadedTexts : List FieldText → ℕ → List ℕ → Type 0
AreHeadedTexts [] i text = text ≡ []
AreHeadedTexts (f ∷ fs) i text = (own : List ℕ) × (others : List ℕ) × IsItemText f.slots.data_type (value_at f.slots.resolved i) own × AreHeadedTexts fs i others × (text ≡ f.head.items ++ own ++ others)
