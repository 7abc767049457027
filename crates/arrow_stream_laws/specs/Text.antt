-- The bytes of a connection, as the parts that a writer sends: a schema's frame, the messages of each batch, and
-- perhaps the end marker (Columnar Format, "IPC Streaming Format").
use Rattle.std.specs.Prelude.{◌≡◌, ℕ, ℤ, ◌+◌, ◌-◌, min, nat_lt, true, false, Bool, if◌then◌else◌, List, [], ◌∷◌, ◌++◌, length, Some, None}
use Rattle.arrow_types.specs.Field.{FieldTree}
use Rattle.arrow_types.specs.Limits.{LimitNumbers}
use Rattle.arrow_types.specs.Notes.{SchemaShape}
use Rattle.arrow_types.specs.Schema.{IsNoted}
use Rattle.arrow_data.specs.Batch.{Table}
use Rattle.arrow_data.specs.Column.{ValueList}
use Rattle.arrow_body_reader.specs.Sound.{columns_of}
use Rattle.arrow_meta_reader.specs.Means.{PlainBatch, schema, dictionary, batch}
use Rattle.arrow_stream_reader.specs.State.{StreamState, schema_given, dictionary_given, batch_given, ended, nothing_yet}
use Rattle.arrow_stream_laws.specs.Sizes.{Options, batch_size, dictionary_size, schema_size}
use Rattle.arrow_body_laws.specs.Laws.{raws_of}
use Rattle.arrow_stream_laws.specs.Rows.{IsKnown}
use Rattle.arrow_stream_laws.specs.Built.{IsBuilt}
use Rattle.arrow_stream_laws.specs.Plan.{Sending, plan, with_list, lists_after}
use Rattle.arrow_stream_laws.specs.Admission.{admission, schema_admission, marker_fits, fields_for}
use Rattle.arrow_stream_laws.specs.Frames.{Frame, frames_bytes, left_by, IsFrameOf, IsMarker}

-- the state with this schema and these dictionaries
abbrev pub state_of : SchemaShape → List (ℤ × ValueList) → StreamState
state_of shape ds = record { schema = Some shape; dictionaries = ds }

-- b is the frame of a dictionary batch: its length is the number of values that it carries, its one column is these values
pub record IsUpdate (limits : LimitNumbers) (align : ℕ) (fields : FieldTree) (w : Sending) (b : List ℕ) : Type 0 where
  pub record_batch : PlainBatch
  pub body : List ℕ
  pub built : IsBuilt align (fields_for fields w.id) (w.carried ∷ []) (length w.carried) record_batch body
  pub frame : IsFrameOf limits (dictionary_size align (fields_for fields w.id)) (dictionary w.id w.is_delta record_batch) body b

-- the frame of a dictionary batch, with what it gives and the state after it
abbrev pub update_frame : SchemaShape → List (ℤ × ValueList) → Sending → List ℕ → Frame
update_frame shape ds w b = record { bytes = b; gives = dictionary_given w.id; leaves = state_of shape (with_list shape.fields w ds) }

-- these are the frames of the dictionary batches, one after another
abbrev pub AreUpdates : LimitNumbers → ℕ → SchemaShape → List (ℤ × ValueList) → List Sending → List Frame → Type 0
AreUpdates limits align shape ds [] fs = fs ≡ []
AreUpdates limits align shape ds (w ∷ ws) fs =
    (b : List ℕ) × (rest : List Frame) × IsUpdate limits align shape.fields w b × AreUpdates limits align shape (with_list shape.fields w ds) ws rest
    × (fs ≡ update_frame shape ds w b ∷ rest)

-- These bytes are the frames of the dictionary batches, one after another, if these dictionaries were sent before.
pub record AreBuilt (limits : LimitNumbers) (align : ℕ) (shape : SchemaShape) (ds : List (ℤ × ValueList)) (ws : List Sending) (bytes : List ℕ) : Type 0 where
  pub frames : List Frame
  pub updates : AreUpdates limits align shape ds ws frames
  pub same : frames_bytes frames ≡ bytes

-- the batch that a reader has of a record batch's frame, with these dictionaries
abbrev pub table_read : SchemaShape → List (ℤ × ValueList) → PlainBatch → List ℕ → ℕ → Table
table_read shape ds record_batch body rows = record { schema = shape; columns = columns_of body ds shape.fields record_batch.nodes record_batch.buffers; rows = rows }

-- the frame of a record batch, with what it gives and the state after it
abbrev pub record_frame : SchemaShape → List (ℤ × ValueList) → PlainBatch → List ℕ → ℕ → List ℕ → Frame
record_frame shape ds record_batch body rows b = record { bytes = b; gives = batch_given (table_read shape ds record_batch body rows); leaves = state_of shape ds }

-- These are the frames of a batch, if these dictionaries were sent before and the frames begin at this offset. The
-- batch is accepted; first come the dictionary batches of its plan, then its record batch, with the batch's number of
-- rows and raw values.
pub record IsPart (limits : LimitNumbers) (o : Options) (shape : SchemaShape) (ds : List (ℤ × ValueList)) (place : ℕ) (t : Table) (fs : List Frame) : Type 0 where
  pub admitted : admission limits o shape ds place t ≡ None
  pub known : IsKnown t
  pub updated : List Frame
  pub updates : AreUpdates limits o.align shape ds (plan o.updates shape.fields ds t) updated
  pub record_batch : PlainBatch
  pub body : List ℕ
  pub built : IsBuilt o.align shape.fields (raws_of t.columns) t.rows record_batch body
  pub last : List ℕ
  pub frame : IsFrameOf limits (batch_size o.align shape.fields) (batch record_batch) body last
  pub frames : fs ≡ updated ++ record_frame shape (lists_after o.updates shape.fields ds t) record_batch body t.rows last ∷ []

-- the bytes of parts, one after another
abbrev pub joined : List (List ℕ) → List ℕ
joined [] = []
joined (p ∷ ps) = p ++ joined ps

-- the frame of a schema, with what it gives and the state after it
abbrev pub schema_frame : SchemaShape → List ℕ → Frame
schema_frame shape b = record { bytes = b; gives = schema_given; leaves = state_of shape [] }

-- These are the parts, the batches and the frames of a connection that is not closed: an accepted schema's frame,
-- then a part for each batch, by the dictionaries after the parts before it.
pub data Text (limits : LimitNumbers) (o : Options) (shape : SchemaShape) : List (List ℕ) → List Table → List Frame → Type 0 where
  begins : (b : List ℕ) → IsNoted shape → schema_admission limits o shape ≡ None →
      IsFrameOf limits (schema_size o.align shape) (schema shape) [] b →
      Text limits o shape (b ∷ []) [] (schema_frame shape b ∷ [])
  adds : (parts : List (List ℕ)) (batches : List Table) (frames : List Frame) (t : Table) (fs : List Frame) →
      Text limits o shape parts batches frames →
      IsPart limits o shape (left_by nothing_yet frames).dictionaries (length (joined parts)) t fs →
      Text limits o shape (parts ++ frames_bytes fs ∷ []) (batches ++ t ∷ []) (frames ++ fs)

-- the end marker, with what it gives and the state after it
abbrev pub marker_frame : StreamState → List ℕ → Frame
marker_frame s b = record { bytes = b; gives = ended; leaves = s }

-- The same for a connection as it ends: if it is finished, the end marker is the last part.
pub data Written (limits : LimitNumbers) (o : Options) (shape : SchemaShape) : Bool → List (List ℕ) → List Table → List Frame → Type 0 where
  unfinished : (parts : List (List ℕ)) (batches : List Table) (frames : List Frame) → Text limits o shape parts batches frames →
      Written limits o shape false parts batches frames
  finished : (parts : List (List ℕ)) (batches : List Table) (frames : List Frame) (b : List ℕ) → Text limits o shape parts batches frames →
      marker_fits (length (joined parts)) ≡ true → IsMarker b →
      Written limits o shape true (parts ++ b ∷ []) batches (frames ++ marker_frame (left_by nothing_yet frames) b ∷ [])

-- how many parts lie completely in the first n bytes
abbrev pub lying_parts : ℕ → List (List ℕ) → ℕ
lying_parts n [] = 0
lying_parts n (p ∷ ps) = if nat_lt n (length p) then 0 else 1 + lying_parts (n - length p) ps

-- how many of them come after the first, which is the schema's
abbrev pub later_parts : List (List ℕ) → ℕ → ℕ
later_parts parts n = lying_parts n parts - 1

-- how many batches have all their messages in the first n bytes: an end marker after them does not count
abbrev pub whole_batches : List (List ℕ) → List Table → ℕ → ℕ
whole_batches parts batches n = min (later_parts parts n) (length batches)
