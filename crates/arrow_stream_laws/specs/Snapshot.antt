-- Laws of the state of a writer after its calls.
use Rattle.std.specs.Prelude.{◌≡◌, ℕ, ◌+◌, ◌≤◌, true, false, Bool, List, [], ◌∷◌, ◌++◌, length, take, map, Option, Some, None}
use Rattle.std.specs.Io.KnownBytes.{Appends}
use Rattle.arrow_types.specs.Limits.{LimitNumbers}
use Rattle.arrow_types.specs.Notes.{SchemaShape}
use Rattle.arrow_types.specs.Schema.{IsNoted}
use Rattle.arrow_data.specs.Batch.{Table}
use Rattle.arrow_meta_reader.specs.Means.{schema}
use Rattle.arrow_sink.specs.Sinks.{AcceptsBeginning}
use Rattle.arrow_sink.specs.declared.status.Status.TheVariants as statuses
use Rattle.arrow_stream_laws.specs.Sizes.{Options, schema_size}
use Rattle.arrow_stream_laws.specs.Plan.{lists_after}
use Rattle.arrow_stream_laws.specs.Rows.{rows_of}
use Rattle.arrow_stream_laws.specs.Admission.{schema_admission, marker_fits, part_size}
use Rattle.arrow_stream_laws.specs.Frames.{Frame, frames_bytes, IsFrameOf, IsMarker, IsStream}
use Rattle.arrow_stream_laws.specs.Text.{IsPart, joined}
use Rattle.arrow_stream_laws.specs.Laws.{Delivered}
use Rattle.arrow_stream_laws.specs.Writer.{WriterView, IsWriterAt, Starts, FailsAtStart, Accepts, Fails, Ends, FailsAtEnd, first_place}

-- a writer whose sink accepted the frame of an accepted schema has sent exactly this frame
abbrev pub SchemaSent : Type 0
SchemaSent =
    (limits : LimitNumbers) (o : Options) (shape : SchemaShape) (base contents : Option (List ℕ)) (failures : ℕ) (b : List ℕ) →
    IsNoted shape → schema_admission limits o shape ≡ None → IsFrameOf limits (schema_size o.align shape) (schema shape) [] b → Appends base contents b →
    Starts limits o shape base failures (record {
      limits = limits;
      options = o;
      shape = shape;
      sent = [];
      place = first_place o shape;
      status = statuses.Writing;
      contents = contents;
      failures = failures;
    })

-- a writer whose sink accepted the messages of a batch has sent these messages and this batch too
abbrev pub PartSent : Type 0
PartSent =
    (old : WriterView) (t : Table) (frames : List Frame) (contents : Option (List ℕ)) → old.status ≡ statuses.Writing →
    IsPart old.limits old.options old.shape old.sent old.place t frames → Appends old.contents contents (frames_bytes frames) →
    Accepts old t (record old {
      sent = lists_after old.options.updates old.shape.fields old.sent t;
      place = old.place + part_size old.options old.shape.fields old.sent t;
      contents = contents;
    })

-- a writer whose sink failed in the messages of a batch has sent a prefix of the parts
abbrev pub PartBroken : Type 0
PartBroken =
    (old : WriterView) (t : Table) (frames : List Frame) (contents : Option (List ℕ)) → old.status ≡ statuses.Writing →
    IsPart old.limits old.options old.shape old.sent old.place t frames → AcceptsBeginning old.contents contents (frames_bytes frames) →
    Fails old t (record old { status = statuses.Broken; contents = contents; failures = old.failures + 1 })

-- a writer whose sink accepted the end marker is finished
abbrev pub MarkerSent : Type 0
MarkerSent =
    (old : WriterView) (b : List ℕ) (contents : Option (List ℕ)) → old.status ≡ statuses.Writing → IsMarker b → marker_fits old.place ≡ true → Appends old.contents contents b →
    Ends old (record old { place = old.place + 8; status = statuses.Finished; contents = contents })

-- a writer whose sink failed in the end marker has sent a prefix of the parts
abbrev pub MarkerBroken : Type 0
MarkerBroken =
    (old : WriterView) (b : List ℕ) (contents : Option (List ℕ)) → old.status ≡ statuses.Writing → IsMarker b → marker_fits old.place ≡ true →
    AcceptsBeginning old.contents contents b →
    FailsAtEnd old (record old { status = statuses.Broken; contents = contents; failures = old.failures + 1 })

-- What the sink of a writer accepted since the writer's start, if the sink reports it, is a stream of exactly the
-- rows of the batches that were accepted, and its last dictionaries are those that the writer records as sent.
abbrev pub SentIsAStream : Type 0
SentIsAStream =
    (w : WriterView) (closed : Bool) (parts : List (List ℕ)) (batches : List Table) (before now : List ℕ) →
    IsWriterAt w (Some before) closed parts batches → w.contents ≡ Some now →
    (now ≡ before ++ joined parts) × IsStream w.limits (joined parts) w.shape (map rows_of batches) w.sent

-- What a sink that failed in the last of these parts accepted: their first n bytes. A reader has of them what is
-- delivered with n bytes.
pub record SendsBeginning (limits : LimitNumbers) (before now : List ℕ) (parts : List (List ℕ)) (batches : List Table) : Type 0 where
  pub frames : List Frame
  pub count : ℕ
  pub inside : count ≤ length (joined parts)
  pub accepted : now ≡ before ++ take count (joined parts)
  pub delivered : Delivered limits parts batches frames count

-- a sink that failed in the schema's frame accepted such a prefix, without batches
abbrev pub StartIsDelivered : Type 0
StartIsDelivered =
    (limits : LimitNumbers) (o : Options) (shape : SchemaShape) (failures now_failed : ℕ) (before now : List ℕ) →
    (f : FailsAtStart limits o shape (Some before) failures (Some now) now_failed) →
    SendsBeginning limits before now (f.part ∷ []) []

-- a sink that failed in the end marker, or when it was flushed, accepted such a prefix of all parts
abbrev pub EndIsDelivered : Type 0
EndIsDelivered =
    (old new : WriterView) (parts : List (List ℕ)) (batches : List Table) (before now : List ℕ) →
    IsWriterAt old (Some before) false parts batches → (f : FailsAtEnd old new) → new.contents ≡ Some now →
    SendsBeginning old.limits before now (parts ++ f.marker ∷ []) batches

-- a sink that failed in the messages of a batch accepted such a prefix, whose last part is these messages
abbrev pub BrokenIsDelivered : Type 0
BrokenIsDelivered =
    (old new : WriterView) (t : Table) (parts : List (List ℕ)) (batches : List Table) (before now : List ℕ) →
    IsWriterAt old (Some before) false parts batches → (f : Fails old t new) → new.contents ≡ Some now →
    SendsBeginning old.limits before now (parts ++ frames_bytes f.frames ∷ []) (batches ++ t ∷ [])
