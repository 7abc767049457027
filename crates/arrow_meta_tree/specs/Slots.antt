-- The fields of tables by their numbers, under their names in Message.fbs and Schema.fbs. A field of a union is
-- preceded by a field, named after it, with the code of its content (FlatBuffers internals, "Unions").
use Rattle.std.specs.Prelude.{ℕ}

-- version (Message.fbs, table "Message")
abbrev pub message_version : ℕ
message_version = 0

-- the code of header (Message.fbs, table "Message")
abbrev pub message_header_type : ℕ
message_header_type = 1

-- header (Message.fbs, table "Message")
abbrev pub message_header : ℕ
message_header = 2

-- bodyLength (Message.fbs, table "Message")
abbrev pub message_body_length : ℕ
message_body_length = 3

-- endianness (Schema.fbs, table "Schema")
abbrev pub schema_endianness : ℕ
schema_endianness = 0

-- fields (Schema.fbs, table "Schema")
abbrev pub schema_fields : ℕ
schema_fields = 1

-- custom_metadata (Schema.fbs, table "Schema")
abbrev pub schema_custom_metadata : ℕ
schema_custom_metadata = 2

-- name (Schema.fbs, table "Field")
abbrev pub field_name : ℕ
field_name = 0

-- nullable (Schema.fbs, table "Field")
abbrev pub field_nullable : ℕ
field_nullable = 1

-- the code of type (Schema.fbs, table "Field")
abbrev pub field_type_type : ℕ
field_type_type = 2

-- type (Schema.fbs, table "Field")
abbrev pub field_type : ℕ
field_type = 3

-- dictionary (Schema.fbs, table "Field")
abbrev pub field_dictionary : ℕ
field_dictionary = 4

-- children (Schema.fbs, table "Field")
abbrev pub field_children : ℕ
field_children = 5

-- custom_metadata (Schema.fbs, table "Field")
abbrev pub field_custom_metadata : ℕ
field_custom_metadata = 6

-- id (Schema.fbs, table "DictionaryEncoding")
abbrev pub dictionary_encoding_id : ℕ
dictionary_encoding_id = 0

-- indexType (Schema.fbs, table "DictionaryEncoding")
abbrev pub dictionary_encoding_index_type : ℕ
dictionary_encoding_index_type = 1

-- isOrdered (Schema.fbs, table "DictionaryEncoding")
abbrev pub dictionary_encoding_is_ordered : ℕ
dictionary_encoding_is_ordered = 2

-- dictionaryKind (Schema.fbs, table "DictionaryEncoding")
abbrev pub dictionary_encoding_dictionary_kind : ℕ
dictionary_encoding_dictionary_kind = 3

-- length (Message.fbs, table "RecordBatch")
abbrev pub record_batch_length : ℕ
record_batch_length = 0

-- nodes (Message.fbs, table "RecordBatch")
abbrev pub record_batch_nodes : ℕ
record_batch_nodes = 1

-- buffers (Message.fbs, table "RecordBatch")
abbrev pub record_batch_buffers : ℕ
record_batch_buffers = 2

-- compression (Message.fbs, table "RecordBatch")
abbrev pub record_batch_compression : ℕ
record_batch_compression = 3

-- id (Message.fbs, table "DictionaryBatch")
abbrev pub dictionary_batch_id : ℕ
dictionary_batch_id = 0

-- data (Message.fbs, table "DictionaryBatch")
abbrev pub dictionary_batch_data : ℕ
dictionary_batch_data = 1

-- isDelta (Message.fbs, table "DictionaryBatch")
abbrev pub dictionary_batch_is_delta : ℕ
dictionary_batch_is_delta = 2

-- key (Schema.fbs, table "KeyValue")
abbrev pub key_value_key : ℕ
key_value_key = 0

-- value (Schema.fbs, table "KeyValue")
abbrev pub key_value_value : ℕ
key_value_value = 1
