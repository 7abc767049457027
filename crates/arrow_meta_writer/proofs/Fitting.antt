-- The layout of a message can be written.
use Rattle.std.proofs.Common.{◌≡◌, ◌+◌, ◌^◌, ◌<◌, ◌≤◌, ℤ, pos, negsuc, List, [], ◌∷◌}
use Rattle.std.proofs.Common.{map, Option, Some, None, ap, arith}
use Rattle.std.specs.Int.{cast_signed, cast_unsigned, w64}
use Rattle.std.proofs.lemmas.Int.{to_z-of_z}
use mir.Val.{SFits}
use Rattle.arrow_flatbuf.specs.Nodes.{TableFields, NodeFits, NodesFit, CellsFit, PairsFit}
use Rattle.arrow_flatbuf.specs.Nodes as laid
use Rattle.arrow_types.specs.DataType as tags
use Rattle.arrow_types.specs.DataType.{TypeId, bits_of, time_width_of}
use Rattle.arrow_types.specs.Field as columns
use Rattle.arrow_types.specs.Field.{FieldHeader, FieldTree}
use Rattle.arrow_types.specs.Notes.{KeyValue, Notes}
use Rattle.arrow_types.specs.declared.field.Encoding.{Encoding}
use Rattle.arrow_types.specs.declared.node.FieldNode.{FieldNode}
use Rattle.arrow_types.specs.declared.node.Buffer.{Buffer}
use Rattle.arrow_meta_reader.specs.Versions.{number_of_version}
use Rattle.arrow_meta_reader.specs.declared.message.MetadataVersion.{MetadataVersion}
use Rattle.arrow_meta_reader.specs.declared.message.MetadataVersion.TheVariants as versions
use Rattle.arrow_meta_writer.specs.Layouts.{tag_code}
use Rattle.arrow_meta_writer.specs.Layouts.{with_encoding, field_nodes, node_pair, buffer_pair}
use Rattle.arrow_meta_writer.specs.Layouts.{pair_nodes, metadata_cells, first_pairs, first_below}
use Rattle.arrow_meta_writer.specs.Layouts.{first_rest}
use Rattle.arrow_meta_writer.specs.Layouts.{batch_cells, header_code, header_cells, message_node}
use Rattle.arrow_meta_reader.specs.Means.{PlainBatch, PlainHeader, schema, dictionary, batch, PlainMessage}
use Rattle.arrow_meta_writer.specs.Writable.{IsLong, HasLongId, AreFields, AreNodes}
use Rattle.arrow_meta_writer.specs.Writable.{AreBuffers, IsBatch, IsHeader}
use Rattle.arrow_meta_writer.proofs.Flawless.{AreFlawless, below_flawless, first_flawless, rest_flawless}
use Rattle.arrow_meta_writer.proofs.TypeRows.{flag_fits, int_fits, type_fits}

pub long_fits : (z : ℤ) → IsLong z → cast_unsigned w64 z < 2 ^ 64
long_fits (pos n) h = omega (arith, h)
long_fits (negsuc n) h = omega (arith, h)

-- a number that the program holds in 64 bits
pub long_from : (z : ℤ) → SFits w64 z → IsLong z
long_from (pos n) h = h.sfits
long_from (negsuc n) h = h.sfits

-- the bits of a number, converted to a number and to bits again
pub bits_again : (z : ℤ) → SFits w64 z → cast_unsigned w64 (cast_signed w64 (cast_unsigned w64 z)) ≡ cast_unsigned w64 z
bits_again z h = ap (cast_unsigned w64) (to_z-of_z w64 z h)

pub code_fits : (tag : TypeId) → tag_code tag < 256
code_fits tags.null = omega arith
code_fits tag = omega arith

encoding_fits : (e : Option Encoding) (rest : TableFields) → HasLongId e → CellsFit rest → CellsFit (with_encoding e rest)
encoding_fits None rest h later = later
encoding_fits (Some e) rest h later =
    ((omega arith, (omega (arith, long_fits e.id h), (int_fits e.index.bits e.index.signed, (flag_fits e.ordered, (omega arith, tt))))), later)

with_encoding_count : (e : Option Encoding) (rest : TableFields) → laid.count (with_encoding e rest) ≡ laid.count rest + 1
with_encoding_count None rest = omega arith
with_encoding_count (Some e) rest = omega arith

-- the tables of pairs
pair_nodes_fit : (ps : List KeyValue) → NodesFit (pair_nodes ps)
pair_nodes_fit [] = tt
pair_nodes_fit (p ∷ ps) = ((omega arith, (tt, (tt, tt))), pair_nodes_fit ps)

metadata_fits : (ps : List KeyValue) → CellsFit (metadata_cells ps)
metadata_fits [] = tt
metadata_fits (p ∷ ps) = (pair_nodes_fit (p ∷ ps), tt)

pub metadata_count : (ps : List KeyValue) → laid.count (metadata_cells ps) ≤ 1
metadata_count [] = omega arith
metadata_count (p ∷ ps) = omega arith

fields_fit : (fields : FieldTree) (n : Notes) → AreFields fields → AreFlawless fields → NodesFit (field_nodes fields n)
fields_fit columns.none n h flawless = tt
fields_fit (columns.more head children rest) n h flawless =
    let own = first_flawless head children rest flawless in
    let below = below_flawless head children rest flawless in
    let later = rest_flawless head children rest flawless in
    let last : TableFields = laid.offset (laid.tables (field_nodes children (first_below n))) (metadata_cells (first_pairs n)) in (
      (
        omega (arith, with_encoding_count head.encoding last, metadata_count (first_pairs n)),
        (
          h.0.name,
          (
            flag_fits head.nullable,
            (
              code_fits head.tag,
              (
                type_fits head.tag children h.0.zone own,
                encoding_fits head.encoding last h.0.id (fields_fit children (first_below n) h.1 below, metadata_fits (first_pairs n)),
              ),
            ),
          ),
        ),
      ),
      fields_fit rest (first_rest n) h.2 later,
    )

nodes_fit : (ns : List FieldNode) → AreNodes ns → PairsFit (map node_pair ns)
nodes_fit [] h = tt
nodes_fit (n ∷ ns) h = (long_fits n.length h.0, long_fits n.null_count h.1, nodes_fit ns h.2)

buffers_fit : (bs : List Buffer) → AreBuffers bs → PairsFit (map buffer_pair bs)
buffers_fit [] h = tt
buffers_fit (b ∷ bs) h = (long_fits b.offset h.0, long_fits b.length h.1, buffers_fit bs h.2)

batch_fits : (b : PlainBatch) → IsBatch b → NodeFits (laid.table (batch_cells b))
batch_fits b h = (omega arith, (long_fits b.length h.length, (nodes_fit b.nodes h.nodes, (buffers_fit b.buffers h.buffers, tt))))

header_fits : (x : PlainHeader) → IsHeader x → NodeFits (laid.table (header_cells x))
header_fits (schema s) h =
    (omega (arith, metadata_count s.pairs), (omega arith, (fields_fit s.fields s.notes h.1.fields_are h.0.schema.bounded.flawless, metadata_fits s.pairs)))
header_fits (dictionary id delta b) h = (omega arith, (long_fits id h.0, (batch_fits b h.1, (flag_fits delta, tt))))
header_fits (batch b) h = batch_fits b h

pub header_code_fits : (x : PlainHeader) → header_code x < 256
header_code_fits (schema s) = omega arith
header_code_fits (dictionary id delta b) = omega arith
header_code_fits (batch b) = omega arith

pub version_fits : (version : MetadataVersion) → number_of_version version < 65536
version_fits versions.V4 = omega arith
version_fits versions.V5 = omega arith

-- A message can be written if the length of its body fits into 64 bits.
pub message_fits : (m : PlainMessage) → IsHeader m.header → m.body_len < 2 ^ 64 → NodeFits (message_node m)
message_fits m h small =
    (omega arith, (version_fits m.version, (header_code_fits m.header, (header_fits m.header h, (small, tt)))))
