-- What a message is, without where it lies in memory, and which message a tree means.
use Rattle.std.specs.Prelude.{◌≡◌, ℕ, ℤ, Bool, List, map, Option, Some, None}
use Rattle.std.specs.Int.{cast_signed, w64}
use Rattle.arrow_flatbuf.specs.Place.{◌>>=◌}
use Rattle.arrow_types.specs.Notes.{SchemaShape}
use Rattle.arrow_types.specs.declared.node.FieldNode.{FieldNode}
use Rattle.arrow_types.specs.declared.node.Buffer.{Buffer}
use Rattle.arrow_meta_reader.specs.declared.message.RecordBatch.{RecordBatch}
use Rattle.arrow_meta_tree.specs.declared.codes.HeaderKind.{HeaderKind}
use Rattle.arrow_meta_tree.specs.declared.codes.HeaderKind.TheVariants as headers
use Rattle.arrow_meta_reader.specs.declared.message.Header.{Header}
use Rattle.arrow_meta_reader.specs.declared.message.Header.TheVariants as built
use Rattle.arrow_meta_reader.specs.declared.message.Message.{Message}
use Rattle.arrow_meta_reader.specs.declared.message.MetadataVersion.{MetadataVersion}
use Rattle.arrow_meta_reader.specs.Faults.{fault_of, version_in, header_in, header_of, body_of, data_of}
use Rattle.arrow_meta_tree.specs.Parts.{nth, parts, number_at, flag_at, pairs_in}
use Rattle.arrow_meta_schema.specs.SchemaMeaning.{schema_in}
use Rattle.arrow_meta_tree.specs.Trees.{Tree, Trees}
use Rattle.arrow_meta_tree.specs.Slots as slots

-- a record batch (Message.fbs, table "RecordBatch")
pub record PlainBatch : Type 0 where
  pub length : ℤ
  pub nodes : List FieldNode
  pub buffers : List Buffer

-- a header: a schema; a dictionary's id, whether it is a delta, and its values; a batch's columns
pub data PlainHeader : Type 0 where
  schema : SchemaShape → PlainHeader
  dictionary : ℤ → Bool → PlainBatch → PlainHeader
  batch : PlainBatch → PlainHeader

-- a message (Message.fbs, table "Message"); the body's length is in bytes
pub record PlainMessage : Type 0 where
  pub version : MetadataVersion
  pub header : PlainHeader
  pub body_len : ℕ

-- a field node of the two numbers of its struct (Message.fbs, struct "FieldNode")
abbrev pub node_of : ℕ × ℕ → FieldNode
node_of p = record { length = cast_signed w64 p.0; null_count = cast_signed w64 p.1 }

-- a buffer of the two numbers of its struct (Message.fbs, struct "Buffer")
abbrev pub buffer_of : ℕ × ℕ → Buffer
buffer_of p = record { offset = cast_signed w64 p.0; length = cast_signed w64 p.1 }

-- the meaning of a RecordBatch table with these fields
abbrev pub batch_of : Trees → PlainBatch
batch_of xs = record {
  length = cast_signed w64 (number_at slots.record_batch_length 0 xs);
  nodes = map node_of (pairs_in (nth slots.record_batch_nodes xs));
  buffers = map buffer_of (pairs_in (nth slots.record_batch_buffers xs));
}

-- the meaning of a header's table with these fields, by the header's kind
abbrev pub header_by : HeaderKind → Trees → PlainHeader
header_by headers.Schema xs = schema (schema_in xs)
header_by headers.DictionaryBatch xs =
    dictionary (cast_signed w64 (number_at slots.dictionary_batch_id 0 xs)) (flag_at slots.dictionary_batch_is_delta xs) (batch_of (data_of xs))
header_by headers.RecordBatch xs = batch (batch_of xs)

-- the meaning of a Message table with these fields, by its version and the kind of its header
abbrev pub message_by : Trees → MetadataVersion → HeaderKind → PlainMessage
message_by xs version kind = record {
  version = version;
  header = header_by kind (parts (header_of xs));
  body_len = body_of xs;
}

-- The meaning of a Message table with these fields, none without a version that is read or without a header. If a
-- fault holds of the fields it is not a message.
abbrev pub meaning_of : Trees → Option PlainMessage
meaning_of xs = do
  version ← version_in xs
  kind ← header_in xs
  Some (message_by xs version kind)

-- A message's tree means this message: no fault holds of it, and this is its meaning.
pub record Means (max_body : ℕ) (x : Tree) (m : PlainMessage) : Type 0 where
  pub sound : fault_of max_body (parts x) ≡ None
  pub same : meaning_of (parts x) ≡ Some m

-- a record batch of the program, as its meaning
abbrev pub batch_view : RecordBatch → PlainBatch
batch_view b = record { length = b.length; nodes = b.nodes.items; buffers = b.buffers.items }

-- a header of the program, as its meaning
abbrev pub header_view : Header → PlainHeader
header_view (built.Schema s) = schema s
header_view (built.Dictionary id delta b) = dictionary id delta (batch_view b)
header_view (built.Batch b) = batch (batch_view b)

-- a message of the program, as its meaning
abbrev pub message_view : Message → PlainMessage
message_view m = record { version = m.version; header = header_view m.header; body_len = m.body_len }
