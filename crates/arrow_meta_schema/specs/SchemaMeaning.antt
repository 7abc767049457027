-- The fields that a Schema table describes, with the defaults filled in (Schema.fbs). If a condition of a fault
-- holds, reading goes on with an arbitrary value, and the result means nothing.
use Rattle.std.specs.Prelude.{ℕ, zero, suc, List, [], ◌∷◌, ◌++◌, Bool, true, false, Option, Some, None}
use Rattle.std.specs.Int.{cast_signed, w64}
use Rattle.arrow_types.specs.DataType as tags
use Rattle.arrow_types.specs.DataType.{TypeId}
use Rattle.arrow_types.specs.Field as columns
use Rattle.arrow_types.specs.Field.{FieldHeader, FieldTree, FieldShape}
use Rattle.arrow_types.specs.Notes.{KeyValue, Notes, unnoted, noted, FieldNotes, SchemaShape}
use Rattle.arrow_types.specs.declared.data_type.BitWidth.TheVariants as widths
use Rattle.arrow_types.specs.declared.field.IndexType.{IndexType}
use Rattle.arrow_types.specs.declared.field.Encoding.{Encoding}
use Rattle.arrow_meta_tree.specs.declared.kinds.TableKind.TheVariants as kinds
use Rattle.arrow_meta_tree.specs.declared.codes.TypeCode.{TypeCode}
use Rattle.arrow_meta_tree.specs.Types.{type_row, type_code, width_in, sign_in}
use Rattle.arrow_meta_tree.specs.Trees.{Tree, leaf, table, tables, Trees, none, more}
use Rattle.arrow_meta_tree.specs.Parts.{nth, parts, number_at, flag_at, text_in, bytes_in}
use Rattle.arrow_meta_tree.specs.Slots as slots

-- An absent index type is a signed number of 32 bits (Schema.fbs, table "DictionaryEncoding").
abbrev pub index_in : Tree → IndexType
index_in (leaf x) = record { bits = widths.ThirtyTwo; signed = true }
index_in (table kind xs) = record { bits = width_in xs; signed = sign_in xs }
index_in (tables xs) = record { bits = widths.ThirtyTwo; signed = true }

-- the encoding of a field, none if its table is absent
abbrev pub encoding_in : Tree → Option Encoding
encoding_in (leaf x) = None
encoding_in (table kind xs) =
    Some (record {
      id = cast_signed w64 (number_at slots.dictionary_encoding_id 0 xs);
      index = index_in (nth slots.dictionary_encoding_index_type xs);
      ordered = flag_at slots.dictionary_encoding_is_ordered xs;
    })
encoding_in (tables xs) = None

-- the type of a code, by the fields of its table; a code outside the profile is read as Null
abbrev pub tag_by : Option TypeCode → Trees → TypeId
tag_by None xs = tags.null
tag_by (Some code) xs = (type_row code).tag xs

-- the field of a Field table, without its children
abbrev pub head_of : Trees → FieldHeader
head_of xs = record {
  name = text_in (nth slots.field_name xs);
  nullable = flag_at slots.field_nullable xs;
  tag = tag_by (type_code (number_at slots.field_type_type 0 xs)) (parts (nth slots.field_type xs));
  encoding = encoding_in (nth slots.field_dictionary xs);
}

-- whether it is a Field table
abbrev pub is_field : Tree → Bool
is_field (leaf x) = false
is_field (table (kinds.Field types) xs) = true
is_field (table kind xs) = false
is_field (tables xs) = false

abbrev mutual
  -- the fields of a vector of Field tables, none if it is absent
  pub fields_in : Tree → FieldTree
  fields_in (leaf x) = columns.none
  fields_in (table kind xs) = columns.none
  fields_in (tables xs) = fields_from xs

  -- the fields of those of the trees that are Field tables
  pub fields_from : Trees → FieldTree
  fields_from none = columns.none
  fields_from (more x xs) = with_field x (fields_from xs)

  -- the field of a Field table, whose children are in its field 5, followed by these fields
  pub with_field : Tree → FieldTree → FieldTree
  with_field (leaf x) rest = rest
  with_field (table (kinds.Field types) xs) rest = columns.more (head_of xs) (fields_at slots.field_children xs) rest
  with_field (table kind xs) rest = rest
  with_field (tables xs) rest = rest

  -- the fields of the vector in field i
  pub fields_at : ℕ → Trees → FieldTree
  fields_at i none = columns.none
  fields_at zero (more x xs) = fields_in x
  fields_at (suc i) (more x xs) = fields_at i xs

-- the field of a Field table
abbrev pub field_of : Trees → FieldShape
field_of xs = record { head = head_of xs; children = fields_at slots.field_children xs }

-- the fields of a Schema table
abbrev pub schema_fields : Trees → FieldTree
schema_fields xs = fields_in (nth slots.schema_fields xs)

-- the pair of a KeyValue table; the key or the value is empty if it is absent (Schema.fbs, table "KeyValue")
abbrev pub pair_of : Trees → KeyValue
pair_of xs = record { key = bytes_in (nth slots.key_value_key xs); value = bytes_in (nth slots.key_value_value xs) }

-- the pair of a tree that is a KeyValue table, none of anything else
abbrev pub pair_in : Tree → List KeyValue
pair_in (leaf x) = []
pair_in (table kinds.KeyValue xs) = pair_of xs ∷ []
pair_in (table kind xs) = []
pair_in (tables xs) = []

-- the pairs of those of the trees that are KeyValue tables, in their order
abbrev pub metadata_from : Trees → List KeyValue
metadata_from none = []
metadata_from (more x xs) = pair_in x ++ metadata_from xs

-- the pairs of a vector of KeyValue tables, none if it is absent
abbrev pub metadata_in : Tree → List KeyValue
metadata_in (leaf x) = []
metadata_in (table kind xs) = []
metadata_in (tables xs) = metadata_from xs

-- the pairs of a Field table (Schema.fbs, table "Field", field "custom_metadata")
abbrev pub field_pairs : Trees → List KeyValue
field_pairs xs = metadata_in (nth slots.field_custom_metadata xs)

-- the pairs of a Schema table (Schema.fbs, table "Schema", field "custom_metadata")
abbrev pub schema_pairs : Trees → List KeyValue
schema_pairs xs = metadata_in (nth slots.schema_custom_metadata xs)

abbrev mutual
  -- the custom metadata of the fields of a vector of Field tables
  pub notes_in : Tree → Notes
  notes_in (leaf x) = unnoted
  notes_in (table kind xs) = unnoted
  notes_in (tables xs) = notes_from xs

  -- the custom metadata of the fields of those of the trees that are Field tables
  pub notes_from : Trees → Notes
  notes_from none = unnoted
  notes_from (more x xs) = with_notes x (notes_from xs)

  -- the custom metadata of the field of a Field table, whose children are in its field 5, followed by these
  pub with_notes : Tree → Notes → Notes
  with_notes (leaf x) rest = rest
  with_notes (table (kinds.Field types) xs) rest = noted (field_pairs xs) (notes_at slots.field_children xs) rest
  with_notes (table kind xs) rest = rest
  with_notes (tables xs) rest = rest

  -- the custom metadata of the fields of the vector in field i
  pub notes_at : ℕ → Trees → Notes
  notes_at i none = unnoted
  notes_at zero (more x xs) = notes_in x
  notes_at (suc i) (more x xs) = notes_at i xs

-- the custom metadata of the field of a Field table, and below it
abbrev pub notes_of_field : Trees → FieldNotes
notes_of_field xs = record { pairs = field_pairs xs; below = notes_at slots.field_children xs }

-- the schema of a Schema table: its fields, its pairs, and the custom metadata of its fields
abbrev pub schema_in : Trees → SchemaShape
schema_in xs = record { fields = schema_fields xs; pairs = schema_pairs xs; notes = notes_in (nth slots.schema_fields xs) }
