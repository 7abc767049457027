-- The bytes written for a message decode to the message again.
use Rattle.std.proofs.Common.{◌≡◌, ℕ, ℤ, pos, negsuc, false, ◌||◌, List, [], ◌∷◌}
use Rattle.std.proofs.Common.{Option, Some, None, map, refl, ap, ◌∙◌}
use Rattle.std.specs.Int.{cast_signed, cast_unsigned, w64}
use Rattle.std.specs.Option.{unwrap_or}
use Rattle.std.proofs.lemmas.Bool.{or_parts}
use Rattle.std.proofs.lemmas.Int.{to_z-of_z}
use Rattle.arrow_types.specs.DataType.{TypeId}
use Rattle.arrow_types.specs.Field as columns
use Rattle.arrow_types.specs.Field.{FieldHeader, FieldTree, width}
use Rattle.arrow_types.specs.Notes.{KeyValue, Notes, unnoted, noted, SchemaShape}
use Rattle.arrow_types.specs.TypeSet.{leaves_out, leaves_some_out}
use Rattle.arrow_types.specs.declared.data_type.BitWidth.TheVariants as widths
use Rattle.arrow_types.specs.declared.type_set.TypeSet.{TypeSet}
use Rattle.arrow_types.specs.declared.field.Encoding.{Encoding}
use Rattle.arrow_types.specs.declared.node.FieldNode.{FieldNode}
use Rattle.arrow_types.specs.declared.node.Buffer.{Buffer}
use Rattle.arrow_meta_reader.specs.Versions.{number_of_version, metadata_version}
use Rattle.arrow_meta_tree.specs.Types.{type_code}
use Rattle.arrow_meta_reader.specs.declared.message.MetadataVersion.{MetadataVersion}
use Rattle.arrow_meta_reader.specs.declared.message.MetadataVersion.TheVariants as versions
use Rattle.arrow_meta_writer.specs.Layouts.{tag_code, node_pair, buffer_pair, first_pairs, first_below, first_rest}
use Rattle.arrow_meta_reader.specs.Means.{PlainBatch, PlainHeader, schema, dictionary, batch, node_of}
use Rattle.arrow_meta_reader.specs.Means.{buffer_of, batch_of, meaning_of}
use Rattle.arrow_meta_tree.specs.Parts.{parts}
use Rattle.arrow_meta_schema.specs.SchemaMeaning.{encoding_in, tag_by, head_of, fields_from}
use Rattle.arrow_meta_schema.specs.SchemaMeaning.{metadata_from, metadata_in, notes_from, schema_in}
use Rattle.arrow_meta_tree.specs.Trees.{Trees}
use Rattle.arrow_meta_writer.specs.Writable.{IsLong, HasLongId, AreFields, AreNodes, AreBuffers}
use Rattle.arrow_meta_writer.specs.Writable.{AreNotesOf, IsBatch, IsHeader, leaves_header_out}
use Rattle.arrow_meta_writer.proofs.Flawless.{AreFlawless, IsFlawless, below_flawless, first_flawless, rest_flawless}
use Rattle.arrow_meta_writer.proofs.TypeRows.{flag_again, width_again, tag_of_all}
use Rattle.arrow_meta_writer.proofs.TypeTrees.{opened_in}
use Rattle.arrow_meta_writer.specs.Written.{type_tree, encoding_tree, field_parts, field_trees}
use Rattle.arrow_meta_writer.specs.Written.{batch_parts, message_parts, pair_trees, metadata_tree, schema_parts}

-- a number that 64 bits hold
long_again : (z : ℤ) → IsLong z → cast_signed w64 (cast_unsigned w64 z) ≡ z
long_again (pos n) h = to_z-of_z w64 (pos n) (record { sfits = h })
long_again (negsuc n) h = to_z-of_z w64 (negsuc n) (record { sfits = h })

-- a type
tag_again : (types : TypeSet) (tag : TypeId) (children : FieldTree) → IsFlawless tag children → leaves_out types tag ≡ false → tag_by (type_code (tag_code tag)) (parts (type_tree types tag)) ≡ tag
tag_again types tag children flawless within = ap (λ tree. tag_by (type_code (tag_code tag)) (parts tree)) (opened_in types tag within) ∙ tag_of_all tag children flawless

-- an encoding
encoding_again : (e : Option Encoding) → HasLongId e → encoding_in (encoding_tree e) ≡ e
encoding_again None h = refl
encoding_again (Some e) h = λ i. Some (record {
  id = long_again e.id h i;
  index = record { bits = unwrap_or (width_again e.index.bits i) widths.Eight; signed = flag_again e.index.signed i };
  ordered = flag_again e.ordered i;
})

-- a field without its children
head_again : (types : TypeSet) (head : FieldHeader) (children : FieldTree) (ps : List KeyValue) (below : Trees) → HasLongId head.encoding → IsFlawless head.tag children → leaves_out types head.tag ≡ false → head_of (field_parts types head ps below) ≡ head
head_again types head children ps below h flawless within = λ i. record {
  name = head.name;
  nullable = flag_again head.nullable i;
  tag = tag_again types head.tag children flawless within i;
  encoding = encoding_again head.encoding h i;
}

-- the fields of a vector
pub fields_again : (types : TypeSet) (fields : FieldTree) (n : Notes) → AreFields fields → AreFlawless fields → leaves_some_out types fields ≡ false → fields_from (field_trees types fields n) ≡ fields
fields_again types columns.none n h flawless within = refl
fields_again types (columns.more head children rest) n h flawless within =
    let in_all = or_parts (leaves_out types head.tag || leaves_some_out types children) (leaves_some_out types rest) within in
    let in_own = or_parts (leaves_out types head.tag) (leaves_some_out types children) in_all.0 in
    let own = first_flawless head children rest flawless in
    let below = below_flawless head children rest flawless in
    let later = rest_flawless head children rest flawless in
    let trees = field_trees types children (first_below n) in
    λ i. columns.more (head_again types head children (first_pairs n) trees h.0.id own in_own.0 i) (fields_again types children (first_below n) h.1 below in_own.1 i) (fields_again types rest (first_rest n) h.2 later in_all.1 i)

-- the pairs of a vector
pairs_again : (ps : List KeyValue) → metadata_from (pair_trees ps) ≡ ps
pairs_again [] = refl
pairs_again (p ∷ ps) = λ i. p ∷ pairs_again ps i

-- the pairs of a table
metadata_again : (ps : List KeyValue) → metadata_in (metadata_tree ps) ≡ ps
metadata_again [] = refl
metadata_again (p ∷ ps) = pairs_again (p ∷ ps)

-- the custom metadata of the fields of a vector
notes_again : (types : TypeSet) (fields : FieldTree) (n : Notes) → AreNotesOf fields n → notes_from (field_trees types fields n) ≡ n
notes_again types columns.none unnoted h = refl
notes_again types columns.none (noted ps below later) h = absurd h
notes_again types (columns.more head children rest) unnoted h = absurd h
notes_again types (columns.more head children rest) (noted ps below later) h =
    λ i. noted (metadata_again ps i) (notes_again types children below h.0 i) (notes_again types rest later h.1 i)

-- a schema
schema_again : (types : TypeSet) (s : SchemaShape) → IsHeader (schema s) → leaves_some_out types s.fields ≡ false → schema_in (schema_parts types s) ≡ s
schema_again types s h within = λ i. record {
  fields = fields_again types s.fields s.notes h.1.fields_are h.0.schema.bounded.flawless within i;
  pairs = metadata_again s.pairs i;
  notes = notes_again types s.fields s.notes h.1.notes_are i;
}

nodes_again : (ns : List FieldNode) → AreNodes ns → map node_of (map node_pair ns) ≡ ns
nodes_again [] h = refl
nodes_again (n ∷ ns) h = λ i. record { length = long_again n.length h.0 i; null_count = long_again n.null_count h.1 i } ∷ nodes_again ns h.2 i

buffers_again : (bs : List Buffer) → AreBuffers bs → map buffer_of (map buffer_pair bs) ≡ bs
buffers_again [] h = refl
buffers_again (b ∷ bs) h = λ i. record { offset = long_again b.offset h.0 i; length = long_again b.length h.1 i } ∷ buffers_again bs h.2 i

-- a record batch
batch_again : (b : PlainBatch) → IsBatch b → batch_of (batch_parts b) ≡ b
batch_again b h = λ i. record {
  length = long_again b.length h.length i;
  nodes = nodes_again b.nodes h.nodes i;
  buffers = buffers_again b.buffers h.buffers i;
}

-- a version
version_again : (version : MetadataVersion) → metadata_version (number_of_version version) ≡ Some version
version_again versions.V4 = refl
version_again versions.V5 = refl

-- a message of this header
pub message_again : (types : TypeSet) (x : PlainHeader) (version : MetadataVersion) (body_len : ℕ) → IsHeader x → leaves_header_out types x ≡ false
    → meaning_of (message_parts types (record { version = version; header = x; body_len = body_len })) ≡ Some (record { version = version; header = x; body_len = body_len })
message_again types (schema s) version body_len h within =
    rw (version_again version) (λ i. Some (record { version = version; header = schema (schema_again types s h within i); body_len = body_len }))
message_again types (dictionary id delta b) version body_len h within =
    rw (version_again version) (λ i. Some (record {
      version = version;
      header = dictionary (long_again id h.0 i) (flag_again delta i) (batch_again b h.1 i);
      body_len = body_len;
    }))
message_again types (batch b) version body_len h within =
    rw (version_again version) (λ i. Some (record { version = version; header = batch (batch_again b h i); body_len = body_len }))
