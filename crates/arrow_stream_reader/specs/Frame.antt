-- What is at the start of bytes: one message, the end marker, an error, or less than that (Columnar Format,
-- "Encapsulated message format").
use Rattle.std.specs.Prelude.{◌≡◌, ℕ, ℤ, ◌+◌, ◌*◌, ◌^◌, ◌<◌, ◌≤◌, ◌==◌, ◌&&◌, not, nat_lt, if◌then◌else◌, Bool, List, [], length, slice_index, take, drop, Option, Some, None, is_some, Result, Ok, Err}
use Rattle.arrow_types.specs.Notes.{SchemaShape}
use Rattle.arrow_types.specs.Limits.{LimitNumbers}
use Rattle.arrow_meta_tree.specs.declared.fault.MetaFault.{MetaFault}
use Rattle.arrow_meta_tree.specs.declared.fault.MetaFault.TheVariants as faults
use Rattle.arrow_stream_reader.specs.declared.kind.Rejection.{Rejection}
use Rattle.arrow_stream_reader.specs.declared.kind.Rejection.TheVariants.{Continuation, MetadataSize, Metadata, Version, Header, BodyLength, Order, Unsupported, Schema, Compressed, UnknownId, NoBase, Rows, NoSchema}
use Rattle.arrow_stream_reader.specs.declared.prefix.Prefix.{Prefix}
use Rattle.arrow_stream_reader.specs.declared.prefix.Prefix.TheVariants as prefixes
use Rattle.arrow_types.specs.Schema.{dictionary_fields}
use Rattle.arrow_data.specs.Column.{Column}
use Rattle.arrow_data.specs.Listed.{listed}
use Rattle.arrow_body_reader.specs.Held.{count_of}
use Rattle.arrow_dict.specs.ValueTypes.{value_type_of}
use Rattle.arrow_meta_reader.specs.Means.{PlainBatch, PlainHeader, schema, dictionary, batch}
use Rattle.arrow_stream_reader.specs.State.{StreamState, Given, schema_given, fields_in}
use Rattle.arrow_stream_reader.specs.Message.{Message}
use Rattle.arrow_stream_reader.specs.Meaning.{Means}
use Rattle.arrow_stream_reader.specs.Batch.{Loads, base_of, batch_left, dictionary_left, has_bad_length, value_fields}

-- the little-endian number in the four bytes from index p on
abbrev pub number_at : List ℕ → ℕ → ℕ
number_at b p =
    slice_index b p + 256 * slice_index b (p + 1) + 65536 * slice_index b (p + 2)
    + 16777216 * slice_index b (p + 3)

-- the continuation: four bytes FF
abbrev pub has_continuation : List ℕ → Bool
has_continuation b =
    (slice_index b 0 == 255) && (slice_index b 1 == 255) && (slice_index b 2 == 255) && (slice_index b 3 == 255)

-- The meaning of the first eight bytes: the least kind that applies, or the end marker, or the metadata's size. A
-- size that is negative as a signed number is, as an unsigned number, over every limit.
abbrev pub prefix_says : LimitNumbers → Bool → ℕ → List ℕ → Result Prefix Rejection
prefix_says limits has_schema place b =
    if not (has_continuation b) then Err Continuation else
    (if nat_lt limits.max_metadata (number_at b 4) then Err MetadataSize else
    (if nat_lt (2 ^ 62) (place + 8 + number_at b 4) then Err MetadataSize else
    (if not (number_at b 4 == 0) then Ok (prefixes.Metadata (number_at b 4)) else
    (if not has_schema then Err NoSchema else Ok prefixes.EndMarker))))

-- whether a message may not come here: a second schema, or a batch before the schema
abbrev pub is_out_of_order : Bool → PlainHeader → Bool
is_out_of_order has_schema (schema fields) = has_schema
is_out_of_order has_schema (dictionary id delta record_batch) = not has_schema
is_out_of_order has_schema (batch record_batch) = not has_schema

-- The kind that is decided by the offset and order of a message, if any: its body would end past 2^62, or it is out
-- of order.
abbrev pub check_order : ℕ → ℕ → Bool → Option Rejection
check_order end body_len out_of_order =
    if nat_lt (2 ^ 62) (end + body_len) then Some BodyLength else (if out_of_order then Some Order else None)

-- The kind with which a dictionary batch is rejected, if any: no field gives its id, a delta finds no dictionary, or
-- there are too many rows, in the batch or in the dictionary after it.
abbrev pub dictionary_refusal : ℕ → StreamState → ℤ → Bool → PlainBatch → Option Rejection
dictionary_refusal max_rows s id delta record_batch =
    if not (is_some (value_type_of (dictionary_fields (fields_in s.schema)) id)) then Some UnknownId else
    (if delta && not (is_some (listed s.dictionaries id)) then Some NoBase else
    (if has_bad_length max_rows (value_fields s.schema id) record_batch then Some Rows else
    (if nat_lt max_rows (length (base_of delta (listed s.dictionaries id)) + count_of record_batch.length) then Some Rows else
    None)))

-- The kind with which a message is rejected because of what was read before it, if any.
abbrev pub state_refusal : ℕ → StreamState → PlainHeader → Option Rejection
state_refusal max_rows s (schema fields) = None
state_refusal max_rows s (dictionary id delta record_batch) = dictionary_refusal max_rows s id delta record_batch
state_refusal max_rows s (batch record_batch) = if has_bad_length max_rows (fields_in s.schema) record_batch then Some Rows else None

-- the first kind if there is one, else the second, which has a greater number
abbrev pub least_kind : Option Rejection → Rejection → Rejection
least_kind (Some k) j = k
least_kind None j = j

-- The least kind of metadata with this fault that end at this offset, after a schema or not. The faults Unsupported
-- and Schema are of a schema, and Compressed is of a batch. Memory is not a meaning, and is here only for
-- completeness.
abbrev pub kind_of_fault : Bool → ℕ → MetaFault → Rejection
kind_of_fault has_schema end faults.Metadata = Metadata
kind_of_fault has_schema end faults.Version = Version
kind_of_fault has_schema end faults.Header = Header
kind_of_fault has_schema end faults.BodyLength = BodyLength
kind_of_fault has_schema end (faults.Unsupported body_len) = least_kind (check_order end body_len has_schema) Unsupported
kind_of_fault has_schema end (faults.Schema body_len) = least_kind (check_order end body_len has_schema) Schema
kind_of_fault has_schema end (faults.Compressed where_found body_len) = least_kind (check_order end body_len (not has_schema)) Compressed
kind_of_fault has_schema end faults.Memory = Metadata

-- the kind if there is one, else the result, which has a greater number or accepts the message
abbrev pub refused_first : Option Rejection → Result Message Rejection → Result Message Rejection
refused_first (Some k) r = Err k
refused_first None r = r

-- The meaning of metadata that end at this offset, after what was read before: the message, or the least of the kinds
-- of the metadata by themselves and of those that are decided by their offset and by what was read before.
abbrev pub judged : ℕ → StreamState → ℕ → Result Message MetaFault → Result Message Rejection
judged max_rows s end (Err fault) = Err (kind_of_fault (is_some s.schema) end fault)
judged max_rows s end (Ok m) =
    refused_first (check_order end m.body_len (is_out_of_order (is_some s.schema) m.content))
    (refused_first (state_refusal max_rows s m.content) (Ok m))

-- the meaning of metadata that begin at this offset
pub record MetadataSays (limits : LimitNumbers) (s : StreamState) (start : ℕ) (metadata : List ℕ)
    (r : Result Message Rejection) : Type 0 where
  pub meant : Result Message MetaFault
  pub means : Means limits metadata meant
  pub says : r ≡ judged limits.max_rows s (start + length metadata) meant

-- The effect of a message with its complete body: the new state and the item, or the kind that the body decides. A
-- schema begins with no dictionaries, and its body is not inspected. The values of a dictionary have no dictionaries
-- of their own. The indices of a record batch are looked up in the dictionaries as they are at this message.
pub data BodySays (s : StreamState) : PlainHeader → List ℕ → Result (StreamState × Given) Rejection → Type 0 where
  schema_comes : {shape : SchemaShape} {body : List ℕ} →
      BodySays s (schema shape) body (Ok (record { schema = Some shape; dictionaries = [] }, schema_given))
  dictionary_comes : {id : ℤ} {delta : Bool} {record_batch : PlainBatch} {body : List ℕ} {cs : Result (List Column) Rejection}
      {r : Result (StreamState × Given) Rejection} → Loads body [] (value_fields s.schema id) record_batch cs →
      r ≡ dictionary_left s id delta cs → BodySays s (dictionary id delta record_batch) body r
  batch_comes : {record_batch : PlainBatch} {body : List ℕ} {cs : Result (List Column) Rejection}
      {r : Result (StreamState × Given) Rejection} → Loads body s.dictionaries (fields_in s.schema) record_batch cs →
      r ≡ batch_left s record_batch cs → BodySays s (batch record_batch) body r

-- b begins with eight bytes that mean r
pub record HasPrefix (limits : LimitNumbers) (s : StreamState) (place : ℕ) (b : List ℕ)
    (r : Result Prefix Rejection) : Type 0 where
  pub within : 8 ≤ length b
  pub says : prefix_says limits (is_some s.schema) place (take 8 b) ≡ r

-- b begins with a prefix and metadata of m bytes, which mean r
pub record HasMetadata (limits : LimitNumbers) (s : StreamState) (place : ℕ) (b : List ℕ) (m : ℕ)
    (r : Result Message Rejection) : Type 0 where
  pub prefix : HasPrefix limits s place b (Ok (prefixes.Metadata m))
  pub within : 8 + m ≤ length b
  pub says : MetadataSays limits s (place + 8) (take m (drop 8 b)) r

-- b begins with a complete frame: metadata of m bytes that announce this message, and its body, which means r
pub record HasBody (limits : LimitNumbers) (s : StreamState) (place : ℕ) (b : List ℕ) (m : ℕ) (message : Message)
    (r : Result (StreamState × Given) Rejection) : Type 0 where
  pub metadata : HasMetadata limits s place b m (Ok message)
  pub within : 8 + m + message.body_len ≤ length b
  pub says : BodySays s message.content (take message.body_len (drop (8 + m) b)) r

-- a message of n bytes with the state after it and its item, the end marker, an error, or less than that
pub data Outcome : Type 0 where
  whole : ℕ → StreamState → Given → Outcome
  marker : Outcome
  refused : Rejection → Outcome
  waits : Outcome

-- The outcome at the start of b, if a stream has come to this state and offset. A part of a frame is checked once it
-- is complete, and not before.
pub data First (limits : LimitNumbers) (s : StreamState) (place : ℕ) (b : List ℕ) : Outcome → Type 0 where
  short_prefix : length b < 8 → First limits s place b waits
  short_metadata : {m : ℕ} → HasPrefix limits s place b (Ok (prefixes.Metadata m)) →
      length b < 8 + m → First limits s place b waits
  short_body : {m : ℕ} {message : Message} → HasMetadata limits s place b m (Ok message) →
      length b < 8 + m + message.body_len → First limits s place b waits
  bad_prefix : {k : Rejection} → HasPrefix limits s place b (Err k) → First limits s place b (refused k)
  bad_metadata : {m : ℕ} {k : Rejection} → HasMetadata limits s place b m (Err k) →
      First limits s place b (refused k)
  bad_body : {m : ℕ} {message : Message} {k : Rejection} → HasBody limits s place b m message (Err k) →
      First limits s place b (refused k)
  end_marker : HasPrefix limits s place b (Ok prefixes.EndMarker) → First limits s place b marker
  message_comes : {m : ℕ} {message : Message} {s' : StreamState} {g : Given} →
      HasBody limits s place b m message (Ok (s', g)) →
      First limits s place b (whole (8 + m + message.body_len) s' g)
