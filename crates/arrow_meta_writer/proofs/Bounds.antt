-- The depth and the size of the tree that is written for a message.
use Rattle.std.proofs.Common.{◌≡◌, ℕ, ◌+◌, ◌*◌, ◌≤◌, List, [], ◌∷◌, length, Option, Some, None, refl, arith}
use Rattle.arrow_flatbuf.specs.Nodes.{Nodes, TableFields, last, offset, count_nodes, after, after_all}
use Rattle.arrow_flatbuf.specs.Nodes.{after_cells, cells_place}
use Rattle.arrow_flatbuf.specs.Nodes as laid
use Rattle.arrow_flatbuf.specs.Layout.{up}
use Rattle.arrow_flatbuf.proofs.Laid.{reaches}
use Rattle.arrow_types.specs.Field as columns
use Rattle.arrow_types.specs.Field.{FieldHeader, FieldTree}
use Rattle.arrow_types.specs.Notes.{KeyValue, Notes, unnoted, noted, noted_count}
use Rattle.arrow_types.specs.declared.type_set.TypeSet.{TypeSet}
use Rattle.arrow_types.specs.declared.field.Encoding.{Encoding}
use Rattle.arrow_meta_writer.specs.Layouts.{type_cells, encoding_cells, with_encoding, field_cells}
use Rattle.arrow_meta_writer.specs.Layouts.{field_nodes, schema_cells, header_cells, message_cells}
use Rattle.arrow_meta_writer.specs.Layouts.{pair_cells, pair_nodes, metadata_cells}
use Rattle.arrow_meta_writer.specs.Layouts.{first_pairs, first_below, first_rest}
use Rattle.arrow_meta_reader.specs.Means.{PlainHeader, schema, dictionary, batch, PlainMessage}
use Rattle.arrow_meta_writer.specs.Metadata.{metadata_size}
use Rattle.arrow_meta_tree.specs.Within.{levels, levels_all, visits, visits_all, entries, entries_all}
use Rattle.arrow_meta_tree.specs.Within.{text_bytes}
use Rattle.arrow_meta_tree.specs.Within.{text_bytes_all, IsShallow}
use Rattle.arrow_meta_writer.specs.Writable.{IsHeader}
use Rattle.arrow_meta_writer.specs.Written.{encoding_tree, field_trees, header_tree}
use Rattle.arrow_meta_writer.specs.Written.{message_tree, pair_trees, metadata_tree}
use Rattle.arrow_meta_writer.proofs.TypeTrees.{type_levels, type_visits, type_entries, type_long}

-- An encoding holds no fields.

encoding_levels : (e : Option Encoding) → levels (encoding_tree e) ≡ 0
encoding_levels None = refl
encoding_levels (Some e) = refl

encoding_visits : (e : Option Encoding) → visits (encoding_tree e) ≡ 0
encoding_visits None = refl
encoding_visits (Some e) = refl

encoding_text : (e : Option Encoding) → text_bytes (encoding_tree e) ≡ 0
encoding_text None = refl
encoding_text (Some e) = refl

encoding_entries : (e : Option Encoding) → entries (encoding_tree e) ≡ 0
encoding_entries None = refl
encoding_entries (Some e) = refl

-- Pairs are not fields, and each is an entry.

pairs_levels : (ps : List KeyValue) → levels_all (pair_trees ps) ≡ 0
pairs_levels [] = refl
pairs_levels (p ∷ ps) = omega (arith, pairs_levels ps)

metadata_levels : (ps : List KeyValue) → levels (metadata_tree ps) ≡ 0
metadata_levels [] = refl
metadata_levels (p ∷ ps) = pairs_levels (p ∷ ps)

pairs_visits : (ps : List KeyValue) → visits_all (pair_trees ps) ≡ 0
pairs_visits [] = refl
pairs_visits (p ∷ ps) = omega (arith, pairs_visits ps)

metadata_visits : (ps : List KeyValue) → visits (metadata_tree ps) ≡ 0
metadata_visits [] = refl
metadata_visits (p ∷ ps) = pairs_visits (p ∷ ps)

pairs_entries : (ps : List KeyValue) → entries_all (pair_trees ps) ≡ length ps
pairs_entries [] = refl
pairs_entries (p ∷ ps) = omega (arith, pairs_entries ps)

metadata_entries : (ps : List KeyValue) → entries (metadata_tree ps) ≡ length ps
metadata_entries [] = refl
metadata_entries (p ∷ ps) = pairs_entries (p ∷ ps)

-- The tree has the levels and the number of the fields, and no more entries than pairs.

field_levels : (types : TypeSet) (fields : FieldTree) (n : Notes) → levels_all (field_trees types fields n) ≡ columns.levels fields
field_levels types columns.none n = refl
field_levels types (columns.more head children rest) n =
    omega (arith, type_levels types head.tag, encoding_levels head.encoding, metadata_levels (first_pairs n), field_levels types children (first_below n), field_levels types rest (first_rest n))

field_visits : (types : TypeSet) (fields : FieldTree) (n : Notes) → visits_all (field_trees types fields n) ≡ columns.count fields
field_visits types columns.none n = refl
field_visits types (columns.more head children rest) n =
    omega (arith, type_visits types head.tag, encoding_visits head.encoding, metadata_visits (first_pairs n), field_visits types children (first_below n), field_visits types rest (first_rest n))

-- the pairs of the custom metadata, piece by piece
parts_count : (n : Notes) → length (first_pairs n) + noted_count (first_below n) + noted_count (first_rest n) ≡ noted_count n
parts_count unnoted = refl
parts_count (noted ps below rest) = refl

field_entries : (types : TypeSet) (fields : FieldTree) (n : Notes) → entries_all (field_trees types fields n) ≤ noted_count n
field_entries types columns.none n = omega arith
field_entries types (columns.more head children rest) n =
    omega (arith, parts_count n, type_entries types head.tag, encoding_entries head.encoding, metadata_entries (first_pairs n), field_entries types children (first_below n), field_entries types rest (first_rest n))

-- Its texts are not longer than the metadata.

-- the children begin after the encoding
encoding_long : (q : ℕ) (e : Option Encoding) (rest : TableFields) → (r : ℕ) × (q ≤ r) × (after_cells q (with_encoding e rest) ≡ after_cells r rest)
encoding_long q None rest = (q, omega arith, refl)
encoding_long q (Some e) rest =
    let r = after q (laid.table (encoding_cells e)) in
    (r, omega (arith, reaches q (laid.table (encoding_cells e))), refl)

-- the keys and values of a vector of pairs
pairs_long : (ps : List KeyValue) (q : ℕ) → q + text_bytes_all (pair_trees ps) ≤ after_all q (pair_nodes ps)
pairs_long [] q = omega arith
pairs_long (p ∷ ps) q = omega (arith, pairs_long ps (after q (laid.table (pair_cells p))))

-- those of a table
metadata_long : (ps : List KeyValue) (q : ℕ) → q + text_bytes (metadata_tree ps) ≤ after_cells q (metadata_cells ps)
metadata_long [] q = omega arith
metadata_long (p ∷ ps) q = omega (arith, pairs_long (p ∷ ps) (up 4 q + 4 + 4 * count_nodes (pair_nodes (p ∷ ps))))

-- the texts of a vector of fields
fields_long : (types : TypeSet) (fields : FieldTree) (n : Notes) (q : ℕ) → q + text_bytes_all (field_trees types fields n) ≤ after_all q (field_nodes fields n)
fields_long types columns.none n q = omega arith
fields_long types (columns.more head children rest) n q =
    let ps = first_pairs n in
    let nodes = field_nodes children (first_below n) in
    let cells = field_cells head ps nodes in
    let place = cells_place q cells in
    let name = up 4 place + 4 + length head.name + 1 in
    let type = after name (laid.table (type_cells head.tag)) in
    let encoding = encoding_long type head.encoding (offset (laid.tables nodes) (metadata_cells ps)) in
    let below = up 4 encoding.0 + 4 + 4 * count_nodes nodes in
    let whole : after q (laid.table cells) ≡ after_cells (after_all below nodes) (metadata_cells ps) = encoding.2 in
    omega (arith, encoding.1, whole, type_long types name head.tag, encoding_text head.encoding, fields_long types children (first_below n) below, metadata_long ps (after_all below nodes), fields_long types rest (first_rest n) (after q (laid.table cells)))

header_text : (types : TypeSet) (x : PlainHeader) (q : ℕ) → q + text_bytes (header_tree types x) ≤ after q (laid.table (header_cells x))
header_text types (schema s) q =
    let nodes = field_nodes s.fields s.notes in
    let below = up 4 (cells_place q (schema_cells s)) + 4 + 4 * count_nodes nodes in
    omega (arith, fields_long types s.fields s.notes below, metadata_long s.pairs (after_all below nodes))
header_text types (dictionary id delta b) q = omega (arith, reaches q (laid.table (header_cells (dictionary id delta b))))
header_text types (batch b) q = omega (arith, reaches q (laid.table (header_cells (batch b))))

-- The names, zones, keys and values of a message are not longer than its metadata.
pub text_short : (types : TypeSet) (m : PlainMessage) → text_bytes (message_tree types m) ≤ metadata_size m
text_short types m = omega (arith, header_text types m.header (cells_place 4 (message_cells m)))

header_levels : (types : TypeSet) (x : PlainHeader) → IsHeader x → levels (header_tree types x) ≤ 32
header_levels types (schema s) h = omega (arith, field_levels types s.fields s.notes, metadata_levels s.pairs, h.0.schema.bounded.shallow)
header_levels types (dictionary id delta b) h = omega arith
header_levels types (batch b) h = omega arith

header_visits : (types : TypeSet) (x : PlainHeader) → IsHeader x → visits (header_tree types x) ≤ 65536
header_visits types (schema s) h = omega (arith, field_visits types s.fields s.notes, metadata_visits s.pairs, h.0.schema.bounded.few)
header_visits types (dictionary id delta b) h = omega arith
header_visits types (batch b) h = omega arith

header_entries : (types : TypeSet) (x : PlainHeader) → IsHeader x → entries (header_tree types x) ≤ 65536
header_entries types (schema s) h = omega (arith, field_entries types s.fields s.notes, metadata_entries s.pairs, h.0.few_pairs)
header_entries types (dictionary id delta b) h = omega arith
header_entries types (batch b) h = omega arith

-- A message that the program holds keeps to the limits of levels, fields and pairs.
pub shallow : (types : TypeSet) (m : PlainMessage) → IsHeader m.header → IsShallow (message_tree types m)
shallow types m h = record {
  levels_within = omega (arith, header_levels types m.header h);
  visits_within = omega (arith, header_visits types m.header h);
  entries_within = omega (arith, header_entries types m.header h);
}
