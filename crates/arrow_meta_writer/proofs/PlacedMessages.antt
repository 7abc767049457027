-- Each table of a message that was laid out matches its tree, aligned.
use Rattle.std.proofs.Common.{◌≡◌, ℕ, ◌+◌, ◌%◌, ℤ, Bool, List, [], ◌∷◌, Option, Some, None, refl, ap, arith}
use Rattle.std.proofs.Common.{map}
use Rattle.arrow_flatbuf.specs.declared.layout.Width.TheVariants.{One, Two, Four, Eight}
use Rattle.arrow_flatbuf.specs.declared.layout.FieldValue.TheVariants.{Target}
use Rattle.arrow_flatbuf.specs.Nodes.{Node, TableFields, last, absent, scalar, offset, count_nodes}
use Rattle.arrow_flatbuf.specs.Nodes.{TableReads, NodePlaced, NodesPlaced, CellsPlaced}
use Rattle.arrow_flatbuf.specs.Nodes as laid
use Rattle.arrow_flatbuf.specs.Place.{target_at}
use Rattle.arrow_flatbuf.specs.Placed.{SlotPlaced}
use Rattle.arrow_flatbuf.specs.Table.{field_place}
use Rattle.arrow_types.specs.Field as columns
use Rattle.arrow_types.specs.Field.{FieldHeader, FieldTree}
use Rattle.arrow_types.specs.Notes.{KeyValue, Notes, SchemaShape}
use Rattle.arrow_types.specs.declared.data_type.BitWidth.{BitWidth}
use Rattle.arrow_types.specs.declared.type_set.TypeSet.{TypeSet}
use Rattle.arrow_types.specs.declared.field.Encoding.{Encoding}
use Rattle.arrow_meta_tree.specs.declared.codes.TypeCode.TheVariants as codes
use Rattle.arrow_meta_tree.specs.declared.kinds.TableKind.TheVariants as kinds
use Rattle.arrow_meta_tree.specs.declared.kinds.FieldForm.TheVariants as forms
use Rattle.arrow_meta_writer.specs.Aligned.{PlacedAligned, AllAligned, LiesAligned}
use Rattle.arrow_meta_tree.specs.Kinds.{spot, spots_of, code_at, header_table}
use Rattle.arrow_meta_writer.specs.Layouts.{tag_code, int_cells}
use Rattle.arrow_meta_writer.specs.Layouts.{encoding_cells, with_encoding, field_cells, field_nodes}
use Rattle.arrow_meta_writer.specs.Layouts.{schema_cells, node_pair, buffer_pair, batch_cells}
use Rattle.arrow_meta_writer.specs.Layouts.{dictionary_cells, header_code, header_cells}
use Rattle.arrow_meta_writer.specs.Layouts.{message_cells, message_node, pair_cells, pair_nodes, metadata_cells}
use Rattle.arrow_meta_writer.specs.Layouts.{first_pairs, first_below, first_rest}
use Rattle.arrow_meta_tree.specs.Lies.{elements}
use Rattle.arrow_meta_reader.specs.Means.{PlainBatch, PlainHeader, schema, dictionary, batch, PlainMessage}
use Rattle.arrow_meta_tree.specs.Parts.{parts}
use Rattle.arrow_meta_writer.specs.Written.{int_parts, encoding_tree}
use Rattle.arrow_meta_writer.specs.Written.{field_parts, field_trees, schema_parts, batch_parts}
use Rattle.arrow_meta_writer.specs.Written.{dictionary_parts, header_tree, message_parts}
use Rattle.arrow_meta_writer.specs.Written.{message_tree, pair_tree, pair_trees, metadata_tree}
use Rattle.arrow_meta_writer.proofs.TypeTrees.{type_placed}
use Rattle.arrow_meta_writer.proofs.Placed.{at, absent_spot, number_field, text_field}
use Rattle.arrow_meta_writer.proofs.Placed.{pairs_field, table_spot, table_field, opened_field}
use Rattle.arrow_meta_writer.proofs.Placed.{tables_field, code_there, bytes_field}

-- an Int table
int_placed : (b : List ℕ) (p : ℕ) (bits : BitWidth) (signed : Bool) → CellsPlaced b p 0 (int_cells bits signed) → AllAligned b (spots_of (kinds.Type codes.Int) (at b p)) (int_parts bits signed)
int_placed b p bits signed h = (number_field Four b p 0 _ h.0, (number_field One b p 1 _ h.1.0, tt))

-- a RecordBatch table
batch_placed : (b : List ℕ) (p : ℕ) (x : PlainBatch) → CellsPlaced b p 0 (batch_cells x) → AllAligned b (spots_of kinds.RecordBatch (at b p)) (batch_parts x)
batch_placed b p x h =
    let nodes = h.1 in
    let buffers = h.1.3 in (
      number_field Eight b p 0 _ h.0,
      (
        pairs_field b p 1 nodes.0 (map node_pair x.nodes) nodes.1 nodes.2,
        (
          pairs_field b p 2 buffers.0 (map buffer_pair x.buffers) buffers.1 buffers.2,
          (absent_spot b forms.Presence (field_place (at b p) 3) (buffers.3 3 (omega arith)), tt),
        ),
      ),
    )

-- a DictionaryBatch table
dictionary_placed : (b : List ℕ) (p : ℕ) (id : ℤ) (delta : Bool) (x : PlainBatch) → CellsPlaced b p 0 (dictionary_cells id delta x) → AllAligned b (spots_of kinds.DictionaryBatch (at b p)) (dictionary_parts id delta x)
dictionary_placed b p id delta x h =
    let values = h.1 in (
      number_field Eight b p 0 _ h.0,
      (
        table_field b p 1 values.0 kinds.RecordBatch (batch_parts x) values.1 values.2.0 (batch_placed b values.0 x values.2.1),
        (number_field One b p 2 _ values.3.0, tt),
      ),
    )

-- a DictionaryEncoding table
encoding_parts_placed : (b : List ℕ) (p : ℕ) (e : Encoding) → CellsPlaced b p 0 (encoding_cells e) → AllAligned b (spots_of kinds.DictionaryEncoding (at b p)) (parts (encoding_tree (Some e)))
encoding_parts_placed b p e h =
    let index = h.1 in (
      number_field Eight b p 0 _ h.0,
      (
        table_field b p 1 index.0 (kinds.Type codes.Int) (int_parts e.index.bits e.index.signed) index.1 index.2.0 (int_placed b index.0 e.index.bits e.index.signed index.2.1),
        (
          number_field One b p 2 _ index.3.0,
          (number_field Two b p 3 _ index.3.1.0, tt),
        ),
      ),
    )

-- a field's encoding, and the fields after it
encoding_placed : (b : List ℕ) (p : ℕ) (e : Option Encoding) (rest : TableFields) → CellsPlaced b p 4 (with_encoding e rest)
    → PlacedAligned b (spot (forms.Table kinds.DictionaryEncoding) (at b p) 4) (encoding_tree e) × CellsPlaced b p 5 rest
encoding_placed b p None rest h = (absent_spot b (forms.Table kinds.DictionaryEncoding) (field_place (at b p) 4) h.0, h.1)
encoding_placed b p (Some e) rest h =
    (table_field b p 4 h.0 kinds.DictionaryEncoding (parts (encoding_tree (Some e))) h.1 h.2.0 (encoding_parts_placed b h.0 e h.2.1), h.3)

-- a KeyValue table
pair_placed : (b : List ℕ) (p : ℕ) (x : KeyValue) → CellsPlaced b p 0 (pair_cells x) → AllAligned b (spots_of kinds.KeyValue (at b p)) (parts (pair_tree x))
pair_placed b p x h = (bytes_field b p 0 h.0 x.key h.1 h.2, (bytes_field b p 1 h.3.0 x.value h.3.1 h.3.2, tt))

-- the KeyValue tables of a vector
pairs_placed : (b : List ℕ) (ps : List KeyValue) (p : ℕ) → p % 4 ≡ 0 → NodesPlaced b p (pair_nodes ps) → AllAligned b (elements kinds.KeyValue p (count_nodes (pair_nodes ps))) (pair_trees ps)
pairs_placed b [] p aligned h = tt
pairs_placed b (x ∷ xs) p aligned h = (
  table_spot b kinds.KeyValue (Some p) p h.0 (parts (pair_tree x)) refl aligned h.1 h.2.0 (pair_placed b h.0 x h.2.1),
  pairs_placed b xs (p + 4) (omega (arith, aligned)) h.3,
)

-- the metadata in field i of a table, which is its last
metadata_placed : (b : List ℕ) (p i : ℕ) (ps : List KeyValue) → CellsPlaced b p i (metadata_cells ps) → PlacedAligned b (spot (forms.Tables kinds.KeyValue) (at b p) i) (metadata_tree ps)
metadata_placed b p i [] h = absent_spot b (forms.Tables kinds.KeyValue) (field_place (at b p) i) (h i (omega arith))
metadata_placed b p i (x ∷ xs) h =
    tables_field b p i h.0 (count_nodes (pair_nodes (x ∷ xs))) kinds.KeyValue (pair_trees (x ∷ xs)) h.1 h.2.0
    (pairs_placed b (x ∷ xs) (h.0 + 4) (omega (arith, h.2.0.aligned)) h.2.1)

-- the Field tables of a vector at p match the trees of the fields
abbrev FieldsPlaced : (types : TypeSet) → List ℕ → FieldTree → Notes → Type 0
FieldsPlaced types b fields n = (p : ℕ) → p % 4 ≡ 0 → NodesPlaced b p (field_nodes fields n) → AllAligned b (elements (kinds.Field types) p (count_nodes (field_nodes fields n))) (field_trees types fields n)

-- a Field table, if its children match
field_placed : (types : TypeSet) (b : List ℕ) (p : ℕ) (head : FieldHeader) (ps : List KeyValue) (children : FieldTree) (n : Notes) → FieldsPlaced types b children n → CellsPlaced b p 0 (field_cells head ps (field_nodes children n))
    → AllAligned b (spots_of (kinds.Field types) (at b p)) (field_parts types head ps (field_trees types children n))
field_placed types b p head ps children n children_placed h =
    let nullable = h.3 in
    let code = nullable.1 in
    let type = code.1 in
    let encoding = encoding_placed b p head.encoding (offset (laid.tables (field_nodes children n)) (metadata_cells ps)) type.3 in
    let below = encoding.1 in (
      text_field b p 0 h.0 head.name h.1 h.2,
      (
        number_field One b p 1 _ nullable.0,
        (
          number_field One b p 2 _ code.0,
          (
            type_placed types b p type.0 head.tag (code_there b p 2 (tag_code head.tag) code.0) type.1 type.2,
            (
              encoding.0,
              (
                tables_field b p 5 below.0 (count_nodes (field_nodes children n)) (kinds.Field types) (field_trees types children n) below.1 below.2.0
                    (children_placed (below.0 + 4) (omega (arith, below.2.0.aligned)) below.2.1),
                (metadata_placed b p 6 ps below.3, tt),
              ),
            ),
          ),
        ),
      ),
    )

-- fields of any depth
fields_placed : (types : TypeSet) (b : List ℕ) (fields : FieldTree) (n : Notes) → FieldsPlaced types b fields n
fields_placed types b columns.none n p aligned h = tt
fields_placed types b (columns.more head children rest) n p aligned h = (
  table_spot b (kinds.Field types) (Some p) p h.0 (field_parts types head (first_pairs n) (field_trees types children (first_below n))) refl aligned h.1 h.2.0
      (field_placed types b h.0 head (first_pairs n) children (first_below n) (fields_placed types b children (first_below n)) h.2.1),
  fields_placed types b rest (first_rest n) (p + 4) (omega (arith, aligned)) h.3,
)

-- a Schema table
schema_placed : (types : TypeSet) (b : List ℕ) (p : ℕ) (s : SchemaShape) → CellsPlaced b p 0 (schema_cells s) → AllAligned b (spots_of (kinds.Schema types) (at b p)) (schema_parts types s)
schema_placed types b p s h =
    let vector = h.1 in (
      number_field Two b p 0 _ h.0,
      (
        tables_field b p 1 vector.0 (count_nodes (field_nodes s.fields s.notes)) (kinds.Field types) (field_trees types s.fields s.notes) vector.1 vector.2.0
            (fields_placed types b s.fields s.notes (vector.0 + 4) (omega (arith, vector.2.0.aligned)) vector.2.1),
        (metadata_placed b p 2 s.pairs vector.3, tt),
      ),
    )

-- the header's table
header_placed : (types : TypeSet) (b : List ℕ) (p r : ℕ) (x : PlainHeader) → code_at (at b p) 1 ≡ header_code x → SlotPlaced (at b p) 2 (Target r) → NodePlaced b r (laid.table (header_cells x)) → PlacedAligned b (spot (forms.Header types) (at b p) 2) (header_tree types x)
header_placed types b p r (schema s) e h k =
    opened_field b p 2 r (header_table types (code_at (at b p) 1)) (kinds.Schema types) (schema_parts types s) (ap (header_table types) e) h k.0 (schema_placed types b r s k.1)
header_placed types b p r (dictionary id delta x) e h k =
    opened_field b p 2 r (header_table types (code_at (at b p) 1)) kinds.DictionaryBatch (dictionary_parts id delta x) (ap (header_table types) e) h k.0 (dictionary_placed b r id delta x k.1)
header_placed types b p r (batch x) e h k =
    opened_field b p 2 r (header_table types (code_at (at b p) 1)) kinds.RecordBatch (batch_parts x) (ap (header_table types) e) h k.0 (batch_placed b r x k.1)

-- a Message table
message_parts_placed : (types : TypeSet) (b : List ℕ) (p : ℕ) (m : PlainMessage) → CellsPlaced b p 0 (message_cells m) → AllAligned b (spots_of (kinds.Message types) (at b p)) (message_parts types m)
message_parts_placed types b p m h =
    let code = h.1 in
    let header = code.1 in (
      number_field Two b p 0 _ h.0,
      (
        number_field One b p 1 _ code.0,
        (
          header_placed types b p header.0 m.header (code_there b p 1 (header_code m.header) code.0) header.1 header.2,
          (number_field Eight b p 3 _ header.3.0, tt),
        ),
      ),
    )

-- A message that was laid out matches its tree at the position to which the offset at position 0 leads.
pub message_placed : (types : TypeSet) (b : List ℕ) (r : ℕ) (m : PlainMessage) → target_at b 0 ≡ Some r → NodePlaced b r (message_node m) → LiesAligned types (message_tree types m) b
message_placed types b r m leads h = table_spot b (kinds.Message types) (Some 0) 0 r (message_parts types m) refl refl leads h.0 (message_parts_placed types b r m h.1)
