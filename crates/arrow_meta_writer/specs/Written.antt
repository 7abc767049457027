-- The tree that is written for a message: what a reader has to find.
use Rattle.std.specs.Prelude.{ℕ, ℤ, Bool, List, [], ◌∷◌, map, Option, Some, None}
use Rattle.std.specs.Int.{cast_unsigned, w64}
use Rattle.arrow_flatbuf.specs.Nodes.{Node, TableFields, last, absent as gap, scalar, offset}
use Rattle.arrow_flatbuf.specs.Nodes as laid
use Rattle.arrow_types.specs.DataType.{TypeId, bits_of}
use Rattle.arrow_types.specs.Field as columns
use Rattle.arrow_types.specs.Field.{FieldHeader, FieldTree}
use Rattle.arrow_types.specs.Notes.{KeyValue, Notes, SchemaShape}
use Rattle.arrow_types.specs.declared.type_set.TypeSet.{TypeSet}
use Rattle.arrow_types.specs.declared.data_type.BitWidth.{BitWidth}
use Rattle.arrow_types.specs.declared.field.Encoding.{Encoding}
use Rattle.arrow_meta_reader.specs.Versions.{number_of_version}
use Rattle.arrow_meta_tree.specs.declared.codes.TypeCode.TheVariants as codes
use Rattle.arrow_meta_tree.specs.declared.kinds.FieldForm.{FieldForm}
use Rattle.arrow_meta_tree.specs.declared.kinds.TableKind.{TableKind}
use Rattle.arrow_meta_tree.specs.declared.kinds.TableKind.TheVariants as kinds
use Rattle.arrow_meta_tree.specs.Kinds.{forms_of, type_table}
use Rattle.arrow_meta_writer.specs.Layouts.{flag, tag_code, type_cells, node_pair}
use Rattle.arrow_meta_writer.specs.Layouts.{buffer_pair, header_code, first_pairs, first_below, first_rest}
use Rattle.arrow_meta_reader.specs.Means.{PlainBatch, PlainHeader, schema, dictionary, batch, PlainMessage}
use Rattle.arrow_meta_tree.specs.Trees.{absent, number, text, byte_string, pairs, Leaf, Tree, leaf, table, tables, Trees}
use Rattle.arrow_meta_tree.specs.Trees.{none, more}

-- a field that holds a number
abbrev pub of_number : ℕ → Tree
of_number n = leaf (number n)

-- the fields of an Int table
abbrev pub int_parts : BitWidth → Bool → Trees
int_parts bits signed = more (of_number (bits_of bits)) (more (of_number (flag signed)) none)

-- the content that an offset of a type's table leads to, if it has one: a text
abbrev pub node_leaf : Node → Leaf
node_leaf (laid.text s) = text s
node_leaf node = absent

-- The fields of these forms, as they are found in the cells of a table. Those after the last cell are absent.
abbrev pub cell_trees : List FieldForm → TableFields → Trees
cell_trees [] cells = none
cell_trees (form ∷ rest) last = more (leaf absent) (cell_trees rest last)
cell_trees (form ∷ rest) (gap cells) = more (leaf absent) (cell_trees rest cells)
cell_trees (form ∷ rest) (scalar width n cells) = more (of_number n) (cell_trees rest cells)
cell_trees (form ∷ rest) (offset node cells) = more (leaf (node_leaf node)) (cell_trees rest cells)

-- the table that is opened, if one is
abbrev pub laid_tree : Option TableKind → TableFields → Tree
laid_tree None cells = leaf absent
laid_tree (Some kind) cells = table kind (cell_trees (forms_of kind) cells)

-- the table of a type, if a reader of this set of types opens it
abbrev pub type_tree : TypeSet → TypeId → Tree
type_tree types tag = laid_tree (type_table types (tag_code tag)) (type_cells tag)

-- a field's encoding, if it has one
abbrev pub encoding_tree : Option Encoding → Tree
encoding_tree None = leaf absent
encoding_tree (Some e) =
    table kinds.DictionaryEncoding (more (of_number (cast_unsigned w64 e.id)) (more (table (kinds.Type codes.Int) (int_parts e.index.bits e.index.signed))
    (more (of_number (flag e.ordered)) (more (of_number 0) none))))

-- a KeyValue table
abbrev pub pair_tree : KeyValue → Tree
pair_tree p = table kinds.KeyValue (more (leaf (byte_string p.key)) (more (leaf (byte_string p.value)) none))

-- the KeyValue tables of pairs, in their order
abbrev pub pair_trees : List KeyValue → Trees
pair_trees [] = none
pair_trees (p ∷ ps) = more (pair_tree p) (pair_trees ps)

-- the pairs of a table, absent if there are none
abbrev pub metadata_tree : List KeyValue → Tree
metadata_tree [] = leaf absent
metadata_tree (p ∷ ps) = tables (pair_trees (p ∷ ps))

-- the fields of a Field table with these pairs and children
abbrev pub field_parts : TypeSet → FieldHeader → List KeyValue → Trees → Trees
field_parts types h ps children =
    more (leaf (text h.name)) (more (of_number (flag h.nullable)) (more (of_number (tag_code h.tag)) (more (type_tree types h.tag)
    (more (encoding_tree h.encoding) (more (tables children) (more (metadata_tree ps) none))))))

-- the Field tables of sibling fields, with this custom metadata
abbrev pub field_trees : TypeSet → FieldTree → Notes → Trees
field_trees types columns.none n = none
field_trees types (columns.more h children rest) n =
    more (table (kinds.Field types) (field_parts types h (first_pairs n) (field_trees types children (first_below n)))) (field_trees types rest (first_rest n))

-- the fields of a Schema table
abbrev pub schema_parts : TypeSet → SchemaShape → Trees
schema_parts types s = more (of_number 0) (more (tables (field_trees types s.fields s.notes)) (more (metadata_tree s.pairs) none))

-- the fields of a RecordBatch table
abbrev pub batch_parts : PlainBatch → Trees
batch_parts b =
    more (of_number (cast_unsigned w64 b.length)) (more (leaf (pairs (map node_pair b.nodes)))
    (more (leaf (pairs (map buffer_pair b.buffers))) (more (leaf absent) none)))

-- the fields of a DictionaryBatch table
abbrev pub dictionary_parts : ℤ → Bool → PlainBatch → Trees
dictionary_parts id delta b =
    more (of_number (cast_unsigned w64 id)) (more (table kinds.RecordBatch (batch_parts b)) (more (of_number (flag delta)) none))

-- the header's table
abbrev pub header_tree : TypeSet → PlainHeader → Tree
header_tree types (schema s) = table (kinds.Schema types) (schema_parts types s)
header_tree types (dictionary id delta b) = table kinds.DictionaryBatch (dictionary_parts id delta b)
header_tree types (batch b) = table kinds.RecordBatch (batch_parts b)

-- the fields of a Message table
abbrev pub message_parts : TypeSet → PlainMessage → Trees
message_parts types m =
    more (of_number (number_of_version m.version)) (more (of_number (header_code m.header)) (more (header_tree types m.header)
    (more (of_number m.body_len) none)))

-- a message, as a reader of this set of types finds it
abbrev pub message_tree : TypeSet → PlainMessage → Tree
message_tree types m = table (kinds.Message types) (message_parts types m)
