-- Frames of batches whose columns were stored (Columnar Format, "Encapsulated message format"; Message.fbs, tables "RecordBatch" and
-- "DictionaryBatch").
use Rattle.std.specs.Prelude.{◌≡◌, ◌≤◌, ◌<◌, ◌⊎◌, ℕ, false, true, List, [], ◌∷◌, ◌++◌, length, Result, Ok, Err}
use Rattle.std.specs.List.{AllByRecursion}
use Rattle.arrow_types.specs.Field.{FieldTree}
use Rattle.arrow_data.specs.Batch.{Table}
use Rattle.arrow_layout.specs.PlainValue.{PlainValue}
use Rattle.arrow_body_laws.specs.Laws.{raws_of}
use Rattle.arrow_body_laws.specs.Raws.{AreRaws, AreSmall}
use Rattle.arrow_body_laws.specs.Stored.{PlainBody, stored}
use Rattle.arrow_meta_reader.specs.Means.{PlainBatch, PlainHeader, PlainMessage, batch, dictionary}
use Rattle.arrow_meta_writer.specs.Writable.{leaves_header_out}
use Rattle.arrow_stream_laws.specs.Admission.{fields_for, frame_fits}
use Rattle.arrow_stream_laws.specs.Built.{IsBuilt}
use Rattle.arrow_stream_laws.specs.Frames.{IsFrameOf}
use Rattle.arrow_stream_laws.specs.Plan.{Sending}
use Rattle.arrow_stream_laws.specs.Sizes.{batch_size, dictionary_size, header_size}
use Rattle.arrow_body_writer.specs.declared.store_fault.BodyStoreFault.{BodyStoreFault}
use Rattle.arrow_body_writer.specs.declared.store_fault.BodyStoreFault.TheVariants as stores
use Rattle.arrow_sink.specs.declared.write_fault.WriteFault.{WriteFault}
use Rattle.arrow_sink.specs.declared.write_fault.WriteFault.TheVariants.{TooLarge, Memory}
use Rattle.arrow_stream_writer.specs.Terms.{Terms}
use Rattle.arrow_stream_writer.specs.declared.frames.BatchHeader.{BatchHeader}
use Rattle.arrow_stream_writer.specs.declared.frames.BatchHeader.TheVariants.{Record, Dictionary}
use Rattle.arrow_stream_writer.specs.declared.frames.BatchMessages.{BatchMessages}

-- What a frame is to carry: its kind, and the fields, the raw values and the number of rows of its columns.
pub record Load : Type 0 where
  pub kind : BatchHeader
  pub fields : FieldTree
  pub raws : List (List PlainValue)
  pub rows : ℕ

-- the load of the record batch of a table
abbrev pub record_load : Table → Load
record_load t = record { kind = Record; fields = t.schema.fields; raws = raws_of t.columns; rows = t.rows }

-- the load of a dictionary batch
abbrev pub update_load : FieldTree → Sending → Load
update_load fields w = record { kind = Dictionary w.id w.is_delta; fields = fields_for fields w.id; raws = w.carried ∷ []; rows = length w.carried }

-- the writer's fault if columns are not stored
abbrev pub not_stored : BodyStoreFault → WriteFault
not_stored stores.TooLarge = TooLarge
not_stored stores.Memory = Memory

-- the header of the message of a kind
abbrev pub header_of : BatchHeader → PlainBatch → PlainHeader
header_of Record b = batch b
header_of (Dictionary id is_delta) b = dictionary id is_delta b

-- how many bytes its metadata have
abbrev pub metadata_of : ℕ → BatchHeader → FieldTree → ℕ
metadata_of align Record fields = batch_size align fields
metadata_of align (Dictionary id is_delta) fields = dictionary_size align fields

-- These are the body's nodes, buffers and bytes: what is stored of the raw values; each column has one value for each
-- row.
pub record IsStored (align : ℕ) (load : Load) (b : PlainBody) : Type 0 where
  pub can : AreRaws load.fields load.raws
  pub small : AreSmall load.fields load.raws
  pub long : AllByRecursion (λ (vs : List PlainValue). length vs ≡ load.rows) load.raws
  pub same : b ≡ stored align load.fields load.raws

-- The frame of a message with this header and this body was appended, and its metadata keep to the limits.
pub record PutsFrameOf (terms : Terms) (header : PlainHeader) (body old new : List ℕ) : Type 0 where
  pub frame : List ℕ
  pub fits_in : header_size terms.align header ≤ terms.limits.max_metadata
  pub types_are_in : leaves_header_out terms.limits.types header ≡ false
  pub is_frame : IsFrameOf terms.limits (header_size terms.align header) header body frame
  pub appended : new ≡ old ++ frame

-- a result for a message with this header and this body: its frame was appended, or its metadata or the types in them
-- do not keep to the limits, or an allocation failed
abbrev pub PutsMessage : Terms → PlainHeader → List ℕ → List ℕ → Result (Unit {0}) WriteFault → List ℕ → Type 0
PutsMessage terms header body old (Ok done) new = PutsFrameOf terms header body old new
PutsMessage terms header body old (Err TooLarge) new =
    (terms.limits.max_metadata < header_size terms.align header) ⊎ (leaves_header_out terms.limits.types header ≡ true)
PutsMessage terms header body old (Err fault) new = fault ≡ Memory

-- the same for the head of a message's frame, whatever body of the length that it gives follows it
abbrev pub PutsHead : Terms → PlainMessage → List ℕ → Result (Unit {0}) WriteFault → List ℕ → Type 0
PutsHead terms m old answer new = (body : List ℕ) → m.body_len ≡ length body → PutsMessage terms m.header body old answer (new ++ body)

-- the bytes of batch messages: those before the body that was stored last, and the body's
abbrev pub part_bytes : BatchMessages → List ℕ
part_bytes p = p.bytes.items ++ p.body.bytes.items

-- the body was appended to the bytes before it
pub record AppendsBody (old new : BatchMessages) : Type 0 where
  pub bytes : new.bytes.items ≡ part_bytes old
  pub nothing_left : new.body.bytes.items ≡ []

-- A frame that keeps to the limits and carries the load was appended.
pub record PutsLoad (terms : Terms) (load : Load) (old new : List ℕ) : Type 0 where
  pub record_batch : PlainBatch
  pub body : List ℕ
  pub frame : List ℕ
  pub built : IsBuilt terms.align load.fields load.raws load.rows record_batch body
  pub is_frame : IsFrameOf terms.limits (metadata_of terms.align load.kind load.fields) (header_of load.kind record_batch) body frame
  pub fits_in : frame_fits terms.limits terms.align (metadata_of terms.align load.kind load.fields) load.fields load.raws load.rows ≡ true
  pub appended : new ≡ old ++ frame

-- the load does not keep to the limits
abbrev pub IsTooLarge : Terms → Load → Type 0
IsTooLarge terms load = frame_fits terms.limits terms.align (metadata_of terms.align load.kind load.fields) load.fields load.raws load.rows ≡ false

-- a result for a load: its frame was appended, or it does not keep to the limits, or an allocation failed
abbrev pub Puts : Terms → Load → List ℕ → Result (Unit {0}) WriteFault → List ℕ → Type 0
Puts terms load old (Ok done) new = PutsLoad terms load old new
Puts terms load old (Err TooLarge) new = IsTooLarge terms load
Puts terms load old (Err fault) new = fault ≡ Memory
