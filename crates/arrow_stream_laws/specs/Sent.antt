-- All bytes that are sent, as a function of the schema, the options and what the batches hold (Columnar Format, "IPC Streaming
-- Format").
use Rattle.std.specs.Prelude.{◌≡◌, ℕ, ℤ, pos, Bool, if◌then◌else◌, List, [], ◌∷◌, ◌++◌, length, map}
use Rattle.std.specs.List.{flat_map}
use Rattle.arrow_types.specs.Field.{FieldTree}
use Rattle.arrow_types.specs.Limits.{LimitNumbers}
use Rattle.arrow_types.specs.Notes.{SchemaShape}
use Rattle.arrow_types.specs.Schema.{dictionary_ids}
use Rattle.arrow_data.specs.Batch.{Table}
use Rattle.arrow_data.specs.Column.{ValueList, listed_of}
use Rattle.arrow_data.specs.Listed.{values_by}
use Rattle.arrow_layout.specs.PlainValue.{PlainValue}
use Rattle.arrow_body_laws.specs.Laws.{raws_of}
use Rattle.arrow_body_laws.specs.Stored.{PlainBody, stored}
use Rattle.arrow_meta_reader.specs.Means.{PlainBatch, PlainHeader, schema, dictionary, batch}
use Rattle.arrow_stream_laws.specs.Admission.{fields_for}
use Rattle.arrow_stream_laws.specs.Frames.{Frame, framed, message_of, prefix_bytes}
use Rattle.arrow_stream_laws.specs.Plan.{Sending, sendings, with_lists}
use Rattle.arrow_stream_laws.specs.Sizes.{Options, batch_size, dictionary_size, schema_size}
use Rattle.arrow_stream_laws.specs.Text.{Written}

-- What is sent of a batch: the raw values of its columns, how many rows there are, and the dictionaries that its
-- columns refer to.
pub record Content : Type 0 where
  pub raws : List (List PlainValue)
  pub rows : ℕ
  pub lists : List (ℤ × ValueList)

-- what this batch holds
abbrev pub content_of : Table → Content
content_of t = record { raws = raws_of t.columns; rows = t.rows; lists = listed_of t.columns }

-- the record batch of a body with that many rows
abbrev pub batch_of : PlainBody → ℕ → PlainBatch
batch_of b rows = record { length = pos rows; nodes = b.nodes; buffers = b.buffers }

-- the frame of this header, whose metadata take that many bytes, with these bytes as its body
abbrev pub frame_of : ℕ → PlainHeader → List ℕ → List ℕ
frame_of size header body = framed (message_of header body) size body

-- the frame of a schema
abbrev pub schema_bytes : Options → SchemaShape → List ℕ
schema_bytes o shape = frame_of (schema_size o.align shape) (schema shape) []

-- the frame of a dictionary batch with this body
abbrev pub dictionary_bytes : ℕ → FieldTree → Sending → PlainBody → List ℕ
dictionary_bytes align fields w b = frame_of (dictionary_size align fields) (dictionary w.id w.is_delta (batch_of b (length w.carried))) b.bytes

-- the same with the body of the values that it carries
abbrev pub update_bytes : ℕ → FieldTree → Sending → List ℕ
update_bytes align fields w = dictionary_bytes align (fields_for fields w.id) w (stored align (fields_for fields w.id) (w.carried ∷ []))

-- the frame of a record batch with this body and that many rows
abbrev pub record_bytes : ℕ → FieldTree → PlainBody → ℕ → List ℕ
record_bytes align fields b rows = frame_of (batch_size align fields) (batch (batch_of b rows)) b.bytes

-- what is sent before a batch that holds this, if these dictionaries were sent before
abbrev pub updates_of : Options → FieldTree → List (ℤ × ValueList) → Content → List Sending
updates_of o fields ds c = sendings o.updates ds (values_by c.lists) (dictionary_ids fields)

-- the messages of a batch that holds this
abbrev pub part_of : Options → FieldTree → List (ℤ × ValueList) → Content → List ℕ
part_of o fields ds c =
    flat_map (update_bytes o.align fields) (updates_of o fields ds c) ++ record_bytes o.align fields (stored o.align fields c.raws) c.rows

-- the messages of several batches
abbrev pub parts_of : Options → FieldTree → List (ℤ × ValueList) → List Content → List (List ℕ)
parts_of o fields ds [] = []
parts_of o fields ds (c ∷ cs) = part_of o fields ds c ∷ parts_of o fields (with_lists fields (updates_of o fields ds c) ds) cs

-- the parts of a connection whose batches hold this, closed by the end marker or not
abbrev pub sent_of : Options → SchemaShape → Bool → List Content → List (List ℕ)
sent_of o shape finish cs = (schema_bytes o shape ∷ parts_of o shape.fields [] cs) ++ (if finish then prefix_bytes 0 ∷ [] else [])

-- Whatever is sent on a connection, and within whatever limits, consists of these parts, byte for byte: two
-- connections with one schema whose batches hold the same, sent with the same options and both closed or both not,
-- send the same bytes.
abbrev pub OneText : Type 0
OneText =
    (limits : LimitNumbers) (o : Options) (shape : SchemaShape) (finish : Bool) (parts : List (List ℕ)) (batches : List Table) (frames : List Frame) →
    Written limits o shape finish parts batches frames → parts ≡ sent_of o shape finish (map content_of batches)
