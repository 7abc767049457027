-- Why a field of a schema is rejected (Schema.fbs, tables "Schema" and "Field").
use Rattle.std.specs.Prelude.{◌≡◌, ◌⊎◌, ◌==◌, ◌||◌, ◌&&◌, ◌<◌, ℕ, List, length, take, Bool, true, false, is_some, Option, None, Some, if◌then◌else◌}
use Rattle.arrow_flatbuf.specs.Place.{◌>>=◌}
use Rattle.std.specs.Option.{is_none, unwrap_or}
use Rattle.arrow_flatbuf.specs.Table.{TableAt, field_place}
use Rattle.arrow_meta_tree.specs.Codes.{bit_width, byte_width, date_unit, decimal_scale, decimal_width, interval_unit, precision, time_unit}
use Rattle.arrow_meta_schema.specs.Conditions.{children_fit}
use Rattle.arrow_meta_tree.specs.Slots as slots
use Rattle.arrow_meta_tree.specs.Types.{decimal_by, is_time, taken, type_code}
use Rattle.arrow_types.specs.declared.type_set.TypeSet.{TypeSet}
use Rattle.arrow_stream_reader.specs.declared.kind.Kind.{Kind}
use Rattle.arrow_stream_reader.specs.declared.kind.Kind.TheVariants as kinds
use Rattle.arrowflow_diagnosis.specs.Message.{header_table}
use Rattle.arrowflow_diagnosis.specs.Places.{element, element_count, field_at, field_number, field_table}
use Rattle.arrowflow_diagnosis.specs.Rejection.{Situation}
use Rattle.arrowflow_diagnosis.specs.declared.field_fault.FieldCondition.{FieldCondition}
use Rattle.arrowflow_diagnosis.specs.declared.field_fault.FieldCondition.TheVariants.{TypeNotRead, DictionaryKind, Children, BitWidth, Precision, Unit, Size, TimeWidth, Decimal, Entries, TypeTable}
use Rattle.arrowflow_diagnosis.specs.declared.schema_fault.SchemaCondition.{SchemaCondition}
use Rattle.arrowflow_diagnosis.specs.declared.schema_fault.SchemaCondition.TheVariants.{Endianness, Field, Nested}

-- the kind of a field's fault
abbrev pub field_kind : FieldCondition → Kind
field_kind (TypeNotRead code) = kinds.Unsupported
field_kind (DictionaryKind number) = kinds.Unsupported
field_kind (Children code count) = kinds.Schema
field_kind (BitWidth bits) = kinds.Schema
field_kind (Precision number) = kinds.Schema
field_kind (Unit code number) = kinds.Schema
field_kind (Size code number) = kinds.Schema
field_kind (TimeWidth unit bits) = kinds.Schema
field_kind (Decimal bits precision scale) = kinds.Schema
field_kind Entries = kinds.Schema
field_kind (TypeTable code) = kinds.Metadata

-- the kind of a schema's fault
abbrev pub schema_kind : SchemaCondition → Kind
schema_kind (Endianness number) = kinds.Unsupported
schema_kind (Field path fault) = field_kind fault
schema_kind (Nested path above) = kinds.Unsupported

-- the code of a field's type (Schema.fbs, table "Field", field "type_type")
abbrev pub code_in : TableAt → Option ℕ
code_in field = field_number 1 0 field slots.field_type_type

-- The field's dictionary has this kind (Schema.fbs, enum "DictionaryKind").
abbrev pub HasKind : TableAt → ℕ → Type 0
HasKind field number =
    (d : TableAt) × (field_table field slots.field_dictionary ≡ Some d) × (field_number 2 0 d slots.dictionary_encoding_dictionary_kind ≡ Some number)

-- the number in this field of a field's type table, this many bytes wide and with this default
abbrev pub type_number : TableAt → ℕ → ℕ → ℕ → Option ℕ
type_number field i width default = do
  type_table ← field_table field slots.field_type
  field_number width default type_table i

-- the first of these numbers
abbrev pub first_number : TableAt → ℕ → ℕ → Option ℕ
first_number field width default = type_number field 0 width default

-- the unit of a Date (code 8), a Time (9), a Timestamp (10), an Interval (11) or a Duration (18), with its default
abbrev pub unit_in : TableAt → ℕ → Option ℕ
unit_in field code = if (code == 10) || (code == 11) then first_number field 2 0 else first_number field 2 1

-- whether a type with this code has this unit
abbrev pub has_unit : ℕ → ℕ → Bool
has_unit code number =
    if code == 8 then is_some (date_unit number) else (if code == 11 then is_some (interval_unit number) else is_some (time_unit number))

-- whether the code is that of a type with a unit
abbrev pub has_units : ℕ → Bool
has_units code = (code == 8) || (code == 9) || (code == 10) || (code == 11) || (code == 18)

-- whether a field whose type has this code is a struct (code 13) of two fields without a dictionary (Schema.fbs,
-- table "Map")
abbrev pub can_be_entries : TableAt → ℕ → Bool
can_be_entries field code =
    (code == 13) && (unwrap_or (element_count field slots.field_children) 0 == 2) && is_none (field_place field slots.field_dictionary)

-- The first child of a map (code 17) cannot be its entries.
pub record LacksEntries (field : TableAt) : Type 0 where
  pub child : TableAt
  pub first : element field slots.field_children 0 ≡ Some child
  pub code : ℕ
  pub of_type : code_in child ≡ Some code
  pub not_entries : can_be_entries child code ≡ false

-- whether a type with this code has a table that is read
abbrev pub has_table : ℕ → Bool
has_table code =
    (code == 2) || (code == 3) || (code == 7) || (code == 8) || (code == 9) || (code == 10) || (code == 11) || (code == 15) || (code == 16) || (code == 17)
    || (code == 18)

-- The fault holds for the field, if these types are read.
abbrev pub FieldFails : FieldCondition → TypeSet → TableAt → Type 0
FieldFails (TypeNotRead code) types field = (code_in field ≡ Some code) × (taken types (type_code code) ≡ None)
FieldFails (DictionaryKind number) types field = HasKind field number × (number ≡ 0 → ⊥)
FieldFails (Children code count) types field =
    (code_in field ≡ Some code) × (unwrap_or (element_count field slots.field_children) 0 ≡ count) × (children_fit (type_code code) count ≡ false)
FieldFails (BitWidth bits) types field = (code_in field ≡ Some 2) × (first_number field 4 0 ≡ Some bits) × (bit_width bits ≡ None)
FieldFails (Precision number) types field = (code_in field ≡ Some 3) × (first_number field 2 0 ≡ Some number) × (precision number ≡ None)
FieldFails (Unit code number) types field =
    (code_in field ≡ Some code) × (has_units code ≡ true) × (unit_in field code ≡ Some number) × (has_unit code number ≡ false)
FieldFails (Size code number) types field =
    (code_in field ≡ Some code) × ((code ≡ 15) ⊎ (code ≡ 16)) × (first_number field 4 0 ≡ Some number) × (byte_width number ≡ None)
FieldFails (TimeWidth unit bits) types field =
    (code_in field ≡ Some 9) × (unit_in field 9 ≡ Some unit) × (type_number field 1 4 32 ≡ Some bits) × (is_time (time_unit unit) bits ≡ false)
FieldFails (Decimal bits precision scale) types field =
    (code_in field ≡ Some 7) × (type_number field 2 4 128 ≡ Some bits) × (type_number field 0 4 0 ≡ Some precision) × (type_number field 1 4 0 ≡ Some scale)
    × (is_some (decimal_by (decimal_width bits) precision (decimal_scale scale)) ≡ false)
FieldFails Entries types field = (code_in field ≡ Some 17) × LacksEntries field
FieldFails (TypeTable code) types field =
    (code_in field ≡ Some code) × (is_some (taken types (type_code code)) ≡ true) × (has_table code ≡ true) × (field_table field slots.field_type ≡ None)

-- a field of the header's schema, by its path
pub record HasField (path : List ℕ) (s : Situation) (field : TableAt) : Type 0 where
  pub schema : TableAt
  pub is : header_table s.bytes ≡ Some schema
  pub there : field_at schema path ≡ Some field

-- The schema's byte order has this number (Schema.fbs, enum "Endianness").
abbrev pub HasEndianness : ℕ → Situation → Type 0
HasEndianness number s = (schema : TableAt) × (header_table s.bytes ≡ Some schema) × (field_number 2 0 schema slots.schema_endianness ≡ Some number)

-- The path leads from a schema to a field that is dictionary-encoded.
abbrev pub LeadsToEncoded : TableAt → List ℕ → Type 0
LeadsToEncoded schema path = (field : TableAt) × (field_at schema path ≡ Some field) × (is_some (field_place field slots.field_dictionary) ≡ true)

-- Two fields of the header's schema are dictionary-encoded: the one at a path, and the one at the first `above` steps
-- of that path.
pub record IsNested (path : List ℕ) (above : ℕ) (s : Situation) : Type 0 where
  pub schema : TableAt
  pub is : header_table s.bytes ≡ Some schema
  pub field : LeadsToEncoded schema path
  pub outer : LeadsToEncoded schema (take above path)
  pub inside : above < length path

-- The fault holds for the schema.
abbrev pub SchemaFails : SchemaCondition → Situation → Type 0
SchemaFails (Endianness number) s = HasEndianness number s × (number ≡ 0 → ⊥)
SchemaFails (Field path fault) s = (field : TableAt) × HasField path.items s field × FieldFails fault s.limits.types field
SchemaFails (Nested path above) s = IsNested path.items above s
