-- Why a dictionary batch or a record batch is rejected because of the messages before it (Message.fbs, tables
-- "DictionaryBatch" and "RecordBatch").
use Rattle.std.specs.Prelude.{◌≡◌, ◌<◌, ◌+◌, ℕ, ℤ, pos, length, get_or, true, Option, None, Some}
use Rattle.arrow_data.specs.Column.{ValueList}
use Rattle.arrow_data.specs.Listed.{listed}
use Rattle.arrow_dict.specs.ValueTypes.{value_type_of}
use Rattle.arrow_meta_reader.specs.Judges.{MetadataMeans}
use Rattle.arrow_meta_reader.specs.Means.{PlainBatch, PlainHeader, PlainMessage, schema, dictionary, batch}
use Rattle.arrow_types.specs.Schema.{dictionary_fields}
use Rattle.arrow_stream_reader.specs.Batch.{is_bad_length}
use Rattle.arrow_stream_reader.specs.State.{fields_in}
use Rattle.arrow_stream_reader.specs.declared.kind.Kind.{Kind}
use Rattle.arrow_stream_reader.specs.declared.kind.Kind.TheVariants as kinds
use Rattle.arrowflow_diagnosis.specs.Places.{metadata_of}
use Rattle.arrowflow_diagnosis.specs.Rejection.{Situation}
use Rattle.arrowflow_diagnosis.specs.declared.rows_fault.RowsFault.{RowsFault}
use Rattle.arrowflow_diagnosis.specs.declared.rows_fault.RowsFault.TheVariants.{UnknownId, NoBase, BatchRows, NodeRows, ValueCount}

-- the kind of a batch's fault
abbrev pub rows_kind : RowsFault → Kind
rows_kind (UnknownId id) = kinds.UnknownId
rows_kind (NoBase id) = kinds.NoBase
rows_kind (BatchRows length) = kinds.Rows
rows_kind (NodeRows node length) = kinds.Rows
rows_kind (ValueCount id found more) = kinds.Rows

-- the metadata of the message decode to this header
abbrev pub Announces : Situation → PlainHeader → Type 0
Announces s header = (m : PlainMessage) × MetadataMeans s.limits (metadata_of s.bytes) m × (m.header ≡ header)

-- the batch of a header, also that of the data of a dictionary batch
abbrev pub batch_in : PlainHeader → Option PlainBatch
batch_in (schema shape) = None
batch_in (dictionary id delta record_batch) = Some record_batch
batch_in (batch record_batch) = Some record_batch

-- no field of the schema has this dictionary id
abbrev pub LacksField : ℤ → Situation → Type 0
LacksField id s = value_type_of (dictionary_fields (fields_in s.state.schema)) id ≡ None

-- a header's batch has this number of rows, which is negative or over the limit
abbrev pub HasBadRows : ℕ → ℤ → Option PlainBatch → Type 0
HasBadRows max rows None = ⊥
HasBadRows max rows (Some record_batch) = (record_batch.length ≡ rows) × (is_bad_length max rows ≡ true)

-- the batch's node with this index has this number of slots, which is negative or over the limit
abbrev pub HasBadNode : ℕ → ℕ → ℤ → Option PlainBatch → Type 0
HasBadNode max k slots None = ⊥
HasBadNode max k slots (Some record_batch) =
    ((get_or record_batch.nodes k (record { length = pos 0; null_count = pos 0 })).length ≡ slots) × (k < length record_batch.nodes) × (is_bad_length max slots ≡ true)

-- the dictionary with this id has this many values
abbrev pub HasValues : ℤ → ℕ → Situation → Type 0
HasValues id found s = (d : ValueList) × (listed s.state.dictionaries id ≡ Some d) × (length d.values ≡ found)

-- a dictionary batch for an id that no field of the schema has
abbrev pub IsUnknown : ℤ → Situation → PlainHeader → Type 0
IsUnknown other s (schema shape) = ⊥
IsUnknown other s (dictionary id delta record_batch) = (id ≡ other) × LacksField other s
IsUnknown other s (batch record_batch) = ⊥

-- a delta for an id that has no dictionary
abbrev pub LacksBase : ℤ → Situation → PlainHeader → Type 0
LacksBase other s (schema shape) = ⊥
LacksBase other s (dictionary id delta record_batch) = (id ≡ other) × (delta ≡ true) × (listed s.state.dictionaries other ≡ None)
LacksBase other s (batch record_batch) = ⊥

-- a delta that would give its dictionary more values than the limit
abbrev pub HasTooMany : ℤ → ℕ → ℕ → Situation → PlainHeader → Type 0
HasTooMany other found more s (schema shape) = ⊥
HasTooMany other found more s (dictionary id delta record_batch) =
    (id ≡ other) × (delta ≡ true) × (record_batch.length ≡ pos more) × HasValues other found s × (s.limits.max_rows < found + more)
HasTooMany other found more s (batch record_batch) = ⊥

-- The fault holds for the header.
abbrev pub HeaderFails : RowsFault → Situation → PlainHeader → Type 0
HeaderFails (UnknownId id) s header = IsUnknown id s header
HeaderFails (NoBase id) s header = LacksBase id s header
HeaderFails (BatchRows rows) s header = HasBadRows s.limits.max_rows rows (batch_in header)
HeaderFails (NodeRows node slots) s header = HasBadNode s.limits.max_rows node slots (batch_in header)
HeaderFails (ValueCount id found more) s header = HasTooMany id found more s header

-- The fault holds for the header to which the metadata of the message decode.
abbrev pub RowsFail : RowsFault → Situation → Type 0
RowsFail fault s = (header : PlainHeader) × Announces s header × HeaderFails fault s header
