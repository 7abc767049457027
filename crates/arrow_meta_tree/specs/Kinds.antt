-- The tables of a message, and which of their fields are read (Message.fbs, Schema.fbs).
use Rattle.std.specs.Prelude.{ℕ, ◌+◌, ◌-◌, List, [], ◌∷◌, Option, Some, None}
use Rattle.std.specs.Option.{option_and_then, unwrap_or}
use Rattle.arrow_flatbuf.specs.Place.{number_at}
use Rattle.arrow_flatbuf.specs.Table.{TableAt, field_place}
use Rattle.arrow_types.specs.declared.type_set.TypeSet.{TypeSet}
use Rattle.arrow_meta_tree.specs.Codes.{header_kind}
use Rattle.arrow_meta_tree.specs.Types.{type_row, type_code, taken}
use Rattle.arrow_meta_tree.specs.declared.codes.HeaderKind.{HeaderKind}
use Rattle.arrow_meta_tree.specs.declared.codes.HeaderKind.TheVariants as headers
use Rattle.arrow_meta_tree.specs.declared.codes.TypeCode.{TypeCode}
use Rattle.arrow_meta_tree.specs.declared.codes.TypeCode.TheVariants as codes
use Rattle.arrow_meta_tree.specs.declared.kinds.TableKind.{TableKind}
use Rattle.arrow_meta_tree.specs.declared.kinds.TableKind.TheVariants as kinds
use Rattle.arrow_meta_tree.specs.declared.kinds.FieldForm.{FieldForm}
use Rattle.arrow_meta_tree.specs.declared.kinds.FieldForm.TheVariants as forms

-- The fields of a table that are read, in order of their numbers from 0 (Message.fbs, Schema.fbs). The fields after
-- the last one are not read.
abbrev pub forms_of : TableKind → List FieldForm
-- version, header's code, header, bodyLength
forms_of (kinds.Message types) = forms.Short ∷ forms.Byte ∷ forms.Header types ∷ forms.Long ∷ []
-- endianness, fields, custom_metadata
forms_of (kinds.Schema types) = forms.Short ∷ forms.Tables (kinds.Field types) ∷ forms.Tables kinds.KeyValue ∷ []
-- name, nullable, type's code, type, dictionary, children, custom_metadata
forms_of (kinds.Field types) =
    forms.Text ∷ forms.Byte ∷ forms.Byte ∷ forms.Type types ∷ forms.Table kinds.DictionaryEncoding ∷ forms.Tables (kinds.Field types) ∷ forms.Tables kinds.KeyValue ∷ []
-- id, indexType, isOrdered, dictionaryKind
forms_of kinds.DictionaryEncoding = forms.Long ∷ forms.Table (kinds.Type codes.Int) ∷ forms.Byte ∷ forms.Short ∷ []
-- length, nodes, buffers, compression
forms_of kinds.RecordBatch = forms.Long ∷ forms.Pairs ∷ forms.Pairs ∷ forms.Presence ∷ []
-- id, data, isDelta
forms_of kinds.DictionaryBatch = forms.Long ∷ forms.Table kinds.RecordBatch ∷ forms.Byte ∷ []
-- those of the type's row
forms_of (kinds.Type code) = (type_row code).fields
-- key, value
forms_of kinds.KeyValue = forms.Bytes ∷ forms.Bytes ∷ []

-- the table of a header (Message.fbs, union "MessageHeader")
abbrev pub table_of_header : TypeSet → Option HeaderKind → Option TableKind
table_of_header types None = None
table_of_header types (Some headers.Schema) = Some (kinds.Schema types)
table_of_header types (Some headers.DictionaryBatch) = Some kinds.DictionaryBatch
table_of_header types (Some headers.RecordBatch) = Some kinds.RecordBatch

-- The table that a header's code opens. No other header is read.
abbrev pub header_table : TypeSet → ℕ → Option TableKind
header_table types code = table_of_header types (header_kind code)

-- a table of these fields, none if no field of it is read
abbrev pub opened_of : TypeCode → List FieldForm → Option TableKind
opened_of code [] = None
opened_of code (form ∷ rest) = Some (kinds.Type code)

-- the table of a type, none if no field of it is read
abbrev pub table_of : Option TypeCode → Option TableKind
table_of None = None
table_of (Some code) = opened_of code (type_row code).fields

-- the table that a type's code opens, if the set has the type
abbrev pub type_table : TypeSet → ℕ → Option TableKind
type_table types code = table_of (taken types (type_code code))

-- the offset of a value and its form, or that it is absent
pub record Spot : Type 0 where
  pub form : FieldForm
  pub place : Option ℕ

-- The code in field i, 0 if it is absent (FlatBuffers internals, "Unions"). If it is not readable no tree lies at the
-- table, whatever the code opens, since the code is itself a field that is read.
abbrev pub code_at : TableAt → ℕ → ℕ
code_at t i = unwrap_or (option_and_then (number_at 1 t.bytes) (field_place t i)) 0

-- A table at an offset, if its code opens one. Without such a code it counts as absent, and then the form means
-- nothing.
abbrev pub opened : Option TableKind → Option ℕ → Spot
opened None place = record { form = forms.Presence; place = None }
opened (Some kind) place = record { form = forms.Table kind; place = place }

-- field i of a table, of this form
abbrev pub snapshot : FieldForm → TableAt → ℕ → Spot
snapshot form t i = record { form = form; place = field_place t i }

-- field i of a table; the form of a header and of a type is determined by the code before it
abbrev pub spot : FieldForm → TableAt → ℕ → Spot
spot (forms.Header types) t i = opened (header_table types (code_at t (i - 1))) (field_place t i)
spot (forms.Type types) t i = opened (type_table types (code_at t (i - 1))) (field_place t i)
spot forms.Byte t i = snapshot forms.Byte t i
spot forms.Short t i = snapshot forms.Short t i
spot forms.Int t i = snapshot forms.Int t i
spot forms.Long t i = snapshot forms.Long t i
spot forms.Text t i = snapshot forms.Text t i
spot forms.Bytes t i = snapshot forms.Bytes t i
spot forms.Pairs t i = snapshot forms.Pairs t i
spot forms.Presence t i = snapshot forms.Presence t i
spot (forms.Table kind) t i = snapshot (forms.Table kind) t i
spot (forms.Tables kind) t i = snapshot (forms.Tables kind) t i

-- the fields from number i on
abbrev pub spots_from : List FieldForm → TableAt → ℕ → List Spot
spots_from [] t i = []
spots_from (form ∷ rest) t i = spot form t i ∷ spots_from rest t (i + 1)

-- all fields of a table
abbrev pub spots_of : TableKind → TableAt → List Spot
spots_of kind t = spots_from (forms_of kind) t 0
