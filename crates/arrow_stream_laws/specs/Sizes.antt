-- How large the messages are that a writer builds (FlatBuffers internals, "Format Details"; Columnar Format, "Buffer
-- Alignment and Padding").
use Rattle.std.specs.Prelude.{ℕ, ◌+◌, ◌-◌, pos, Bool, true, false, ◌&&◌, nat_le, List, [], ◌∷◌, ◌++◌, length, replicate}
use Rattle.arrow_types.specs.Field.{FieldTree, none, more}
use Rattle.arrow_types.specs.Notes.{SchemaShape}
use Rattle.arrow_layout.specs.Form.{node_form}
use Rattle.arrow_layout.specs.PlainValue.{PlainValue}
use Rattle.arrow_body_reader.specs.Taken.{taken_nodes, taken_buffers}
use Rattle.arrow_body_laws.specs.Raws.{last_offset, offset_limit, raws_below}
use Rattle.arrow_body_laws.specs.Stored.{rounded}
use Rattle.arrow_dict.specs.declared.update.Updates.{Updates}
use Rattle.arrow_meta_reader.specs.declared.message.MetadataVersion.TheVariants as versions
use Rattle.arrow_meta_reader.specs.Means.{PlainBatch, PlainHeader, schema, dictionary, batch}
use Rattle.arrow_meta_writer.specs.Metadata.{metadata_size}

-- how a writer sends: whether it sends deltas, and to which alignment
pub record Options : Type 0 where
  pub updates : Updates
  pub align : ℕ

-- the bytes of the metadata of a message with this header: with the eight bytes before them they end at a multiple of the alignment
abbrev pub header_size : ℕ → PlainHeader → ℕ
header_size align header = rounded align (8 + metadata_size (record { version = versions.V5; header = header; body_len = 0 })) - 8

-- a record batch with all nodes and buffers that the fields take: every number takes eight bytes, whatever it is
abbrev pub blank_batch : FieldTree → PlainBatch
blank_batch fields = record {
  length = pos 0;
  nodes = replicate (taken_nodes fields) (record { length = pos 0; null_count = pos 0 });
  buffers = replicate (taken_buffers fields) (record { offset = pos 0; length = pos 0 });
}

-- the bytes of a schema's metadata
abbrev pub schema_size : ℕ → SchemaShape → ℕ
schema_size align shape = header_size align (schema shape)

-- the bytes of the metadata of a dictionary batch whose values are of this field
abbrev pub dictionary_size : ℕ → FieldTree → ℕ
dictionary_size align fields = header_size align (dictionary (pos 0) false (blank_batch fields))

-- the bytes of the metadata of a record batch of these fields
abbrev pub batch_size : ℕ → FieldTree → ℕ
batch_size align fields = header_size align (batch (blank_batch fields))

-- how many slots each field node of columns with these raw values has, in pre-order
abbrev pub slots_in : FieldTree → List (List PlainValue) → List ℕ
slots_in none raws = []
slots_in (more head children rest) [] = []
slots_in (more head children rest) (vs ∷ raws) =
    length vs ∷ (slots_in children (raws_below (node_form head.tag head.encoding) children vs) ++ slots_in rest raws)

-- whether each offset fits in its bits
abbrev pub offsets_fit : FieldTree → List (List PlainValue) → Bool
offsets_fit none raws = true
offsets_fit (more head children rest) [] = true
offsets_fit (more head children rest) (vs ∷ raws) =
    nat_le (last_offset (node_form head.tag head.encoding) vs) (offset_limit (node_form head.tag head.encoding))
    && offsets_fit children (raws_below (node_form head.tag head.encoding) children vs) && offsets_fit rest raws
