-- Why the numbers in the tables of a message itself are rejected (Message.fbs, tables "Message" and "RecordBatch").
use Rattle.std.specs.Prelude.{◌≡◌, ◌≤◌, ◌<◌, ◌+◌, length, ◌^◌, ◌⊎◌, ◌==◌, ℕ, List, true, false, is_some, Option, None, Some, if◌then◌else◌}
use Rattle.arrow_flatbuf.specs.Place.{◌>>=◌}
use Rattle.arrow_flatbuf.specs.Table.{TableAt, field_place}
use Rattle.arrow_meta_tree.specs.Codes.{batch_code, dictionary_code, header_kind, schema_code}
use Rattle.arrow_meta_reader.specs.Versions.{metadata_version}
use Rattle.arrow_meta_tree.specs.Slots as slots
use Rattle.arrow_stream_reader.specs.Frame.{number_at}
use Rattle.arrow_stream_reader.specs.declared.kind.Kind.{Kind}
use Rattle.arrow_stream_reader.specs.declared.kind.Kind.TheVariants as kinds
use Rattle.arrowflow_diagnosis.specs.Cut.{body_length}
use Rattle.arrowflow_diagnosis.specs.Places.{field_number, field_table, message_table}
use Rattle.arrowflow_diagnosis.specs.Rejection.{Situation}
use Rattle.arrowflow_diagnosis.specs.declared.message_fault.MessageFault.{MessageFault}
use Rattle.arrowflow_diagnosis.specs.declared.message_fault.MessageFault.TheVariants.{Version, HeaderMissing, Header, BodyLength, BodyEnd, SecondSchema, BatchFirst, Compressed, MessageTable, HeaderTable, DataTable}

-- the kind of a fault in the tables of a message itself
abbrev pub message_kind : MessageFault → Kind
message_kind (Version number) = kinds.Version
message_kind HeaderMissing = kinds.Header
message_kind (Header code) = kinds.Header
message_kind (BodyLength length) = kinds.BodyLength
message_kind (BodyEnd length) = kinds.BodyLength
message_kind SecondSchema = kinds.Order
message_kind (BatchFirst code) = kinds.Order
message_kind (Compressed codec) = kinds.Compressed
message_kind MessageTable = kinds.Metadata
message_kind (HeaderTable code) = kinds.Metadata
message_kind DataTable = kinds.Metadata

-- the number of this many bytes in field i of a message's table, 0 if the field is absent
abbrev pub message_number : ℕ → ℕ → List ℕ → Option ℕ
message_number width i message = do
  table ← message_table message
  field_number width 0 table i

-- the table of a message's header
abbrev pub header_table : List ℕ → Option TableAt
header_table message = do
  table ← message_table message
  field_table table slots.message_header

-- the table of a record batch, or of the data of a dictionary batch, by the code of the header
abbrev pub batch_in : ℕ → TableAt → Option TableAt
batch_in code header =
    if code == batch_code then Some header else (if code == dictionary_code then field_table header slots.dictionary_batch_data else None)

-- the same for a message
abbrev pub batch_table : List ℕ → Option TableAt
batch_table message = do
  code ← message_number 1 slots.message_header_type message
  header ← header_table message
  batch_in code header

-- the number of the codec that a record batch names (Message.fbs, table "BodyCompression", field "codec")
abbrev pub codec_in : TableAt → Option ℕ
codec_in batch = do
  compression ← field_table batch slots.record_batch_compression
  field_number 1 0 compression 0

-- The table of the batch has a compression, with this codec.
pub record IsCompressed (codec : Option ℕ) (message : List ℕ) : Type 0 where
  pub table : TableAt
  pub is : batch_table message ≡ Some table
  pub named : is_some (field_place table slots.record_batch_compression) ≡ true
  pub by : codec ≡ codec_in table

-- A message has no header.
abbrev pub LacksHeader : List ℕ → Type 0
LacksHeader message = (table : TableAt) × (message_table message ≡ Some table) × (field_place table slots.message_header ≡ None)

-- The table of the header does not lie inside the metadata, or is absent; the header has this code.
abbrev pub LacksTable : ℕ → List ℕ → Type 0
LacksTable code message =
    (table : TableAt) × (message_table message ≡ Some table) × (field_number 1 0 table slots.message_header_type ≡ Some code)
    × (field_table table slots.message_header ≡ None)

-- The table of a dictionary batch's data does not lie inside the metadata, or is absent.
abbrev pub LacksData : List ℕ → Type 0
LacksData message =
    (header : TableAt) × (header_table message ≡ Some header) × (message_number 1 slots.message_header_type message ≡ Some dictionary_code)
    × (field_table header slots.dictionary_batch_data ≡ None)

-- The fault holds for the numbers of the message itself.
abbrev pub MessageFails : MessageFault → Situation → Type 0
MessageFails (Version number) s = (message_number 2 slots.message_version s.bytes ≡ Some number) × (metadata_version number ≡ None)
MessageFails HeaderMissing s = LacksHeader s.bytes
MessageFails (Header code) s = (message_number 1 slots.message_header_type s.bytes ≡ Some code) × (header_kind code ≡ None)
MessageFails (BodyLength n) s = (body_length s.bytes ≡ Some n) × (s.limits.max_body < n)
MessageFails (BodyEnd n) s = (body_length s.bytes ≡ Some n) × (2 ^ 62 < s.place + 8 + number_at s.bytes 4 + n)
MessageFails SecondSchema s = (message_number 1 slots.message_header_type s.bytes ≡ Some schema_code) × (is_some s.state.schema ≡ true)
MessageFails (BatchFirst code) s =
    (message_number 1 slots.message_header_type s.bytes ≡ Some code) × ((code ≡ dictionary_code) ⊎ (code ≡ batch_code)) × (is_some s.state.schema ≡ false)
MessageFails (Compressed codec) s = IsCompressed codec s.bytes
MessageFails MessageTable s = (8 + number_at s.bytes 4 ≤ length s.bytes) × (message_table s.bytes ≡ None)
MessageFails (HeaderTable code) s = LacksTable code s.bytes
MessageFails DataTable s = LacksData s.bytes
