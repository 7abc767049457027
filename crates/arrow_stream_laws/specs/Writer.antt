-- The visible state of a writer, and what its calls return.
use Rattle.std.specs.Prelude.{◌≡◌, ℕ, ℤ, ◌+◌, true, false, Bool, List, [], ◌∷◌, ◌++◌, length, Option, Some, None, Result, Ok, Err}
use Rattle.std.specs.Io.KnownBytes.{Appends}
use Rattle.arrow_types.specs.Limits.{LimitNumbers}
use Rattle.arrow_types.specs.Notes.{SchemaShape}
use Rattle.arrow_types.specs.Schema.{IsNoted}
use Rattle.arrow_data.specs.Batch.{Table}
use Rattle.arrow_data.specs.Column.{ValueList}
use Rattle.arrow_meta_reader.specs.Means.{schema}
use Rattle.arrow_sink.specs.Sinks.{AcceptsBeginning}
use Rattle.arrow_stream_reader.specs.State.{nothing_yet}
use Rattle.arrow_sink.specs.declared.status.Status.{Status}
use Rattle.arrow_sink.specs.declared.status.Status.TheVariants as statuses
use Rattle.arrow_sink.specs.declared.write_fault.WriteFault.{WriteFault}
use Rattle.arrow_sink.specs.declared.write_fault.WriteFault.TheVariants.{SchemaDiffers, TooLarge, DictionariesDiffer, Sink, Broken, Finished, Memory}
use Rattle.arrow_stream_laws.specs.Sizes.{Options, schema_size}
use Rattle.arrow_stream_laws.specs.Plan.{lists_after}
use Rattle.arrow_stream_laws.specs.Admission.{admission, schema_admission, marker_fits, part_size}
use Rattle.arrow_stream_laws.specs.Frames.{Frame, frames_bytes, left_by, IsFrameOf, IsMarker}
use Rattle.arrow_stream_laws.specs.Text.{IsPart, Written, joined}

-- The visible state of a writer: what it was started with, the dictionaries that were sent, the offset of the next
-- frame, whether it takes more, and of its sink what it accepted, if the sink reports that, and how many of its calls
-- failed.
pub record WriterView : Type 0 where
  pub limits : LimitNumbers
  pub options : Options
  pub shape : SchemaShape
  pub sent : List (ℤ × ValueList)
  pub place : ℕ
  pub status : Status
  pub contents : Option (List ℕ)
  pub failures : ℕ

-- the status of a writer that is not broken: closed, or not
abbrev pub status_of : Bool → Status
status_of false = statuses.Writing
status_of true = statuses.Finished

-- A writer, whose sink held base at its start, has sent these parts and these batches, and is closed or not.
pub record IsWriterAt (w : WriterView) (base : Option (List ℕ)) (closed : Bool) (parts : List (List ℕ)) (batches : List Table) : Type 0 where
  pub frames : List Frame
  pub written : Written w.limits w.options w.shape closed parts batches frames
  pub sent_are : w.sent ≡ (left_by nothing_yet frames).dictionaries
  pub place_is : w.place ≡ length (joined parts)
  pub accepted : Appends base w.contents (joined parts)
  pub status_is : w.status ≡ status_of closed

-- all messages of the batch were accepted
pub record Accepts (old : WriterView) (t : Table) (new : WriterView) : Type 0 where
  pub open_before : old.status ≡ statuses.Writing
  pub frames : List Frame
  pub is_part : IsPart old.limits old.options old.shape old.sent old.place t frames
  pub accepted : Appends old.contents new.contents (frames_bytes frames)
  pub new_is : new ≡ record old {
    sent = lists_after old.options.updates old.shape.fields old.sent t;
    place = old.place + part_size old.options old.shape.fields old.sent t;
    contents = new.contents;
  }
  pub position : (base : Option (List ℕ)) (parts : List (List ℕ)) (batches : List Table) → IsWriterAt old base false parts batches →
      IsWriterAt new base false (parts ++ frames_bytes frames ∷ []) (batches ++ t ∷ [])

-- the sink failed in the messages of the batch and accepted a prefix of them; all that it accepted is a prefix of a
-- connection's parts
pub record Fails (old : WriterView) (t : Table) (new : WriterView) : Type 0 where
  pub open_before : old.status ≡ statuses.Writing
  pub frames : List Frame
  pub is_part : IsPart old.limits old.options old.shape old.sent old.place t frames
  pub accepted : AcceptsBeginning old.contents new.contents (frames_bytes frames)
  pub new_is : new ≡ record old { status = statuses.Broken; contents = new.contents; failures = old.failures + 1 }
  pub in_all : (base : Option (List ℕ)) (parts : List (List ℕ)) (batches : List Table) → IsWriterAt old base false parts batches →
      AcceptsBeginning base new.contents (joined (parts ++ frames_bytes frames ∷ []))

-- an open writer rejected the batch, and nothing has changed
pub record RefusesWrite (old : WriterView) (t : Table) (k : WriteFault) (new : WriterView) : Type 0 where
  pub open_before : old.status ≡ statuses.Writing
  pub refusal : admission old.limits old.options old.shape old.sent old.place t ≡ Some k
  pub unchanged : new ≡ old

-- a writer with this status is unchanged
pub record Stays (old : WriterView) (status : Status) (new : WriterView) : Type 0 where
  pub before : old.status ≡ status
  pub unchanged : new ≡ old

-- what a write returns
abbrev pub Writes : WriterView → Table → Result (Unit {0}) WriteFault → WriterView → Type 0
Writes old t (Ok done) new = Accepts old t new
Writes old t (Err SchemaDiffers) new = RefusesWrite old t SchemaDiffers new
Writes old t (Err TooLarge) new = RefusesWrite old t TooLarge new
Writes old t (Err DictionariesDiffer) new = RefusesWrite old t DictionariesDiffer new
Writes old t (Err Sink) new = Fails old t new
Writes old t (Err Broken) new = Stays old statuses.Broken new
Writes old t (Err Finished) new = Stays old statuses.Finished new
Writes old t (Err Memory) new = Stays old statuses.Writing new

-- the offset after a schema's frame
abbrev pub first_place : Options → SchemaShape → ℕ
first_place o shape = 8 + schema_size o.align shape

-- the state of a writer after a start: the schema's frame is accepted
pub record Starts (limits : LimitNumbers) (o : Options) (shape : SchemaShape) (base : Option (List ℕ)) (failures : ℕ) (new : WriterView) : Type 0 where
  pub part : List ℕ
  pub new_is : new ≡ record {
    limits = limits;
    options = o;
    shape = shape;
    sent = [];
    place = first_place o shape;
    status = statuses.Writing;
    contents = new.contents;
    failures = failures;
  }
  pub position : IsWriterAt new base false (part ∷ []) []

-- the sink failed in the schema's frame; the schema is an accepted one
pub record FailsAtStart (limits : LimitNumbers) (o : Options) (shape : SchemaShape) (base : Option (List ℕ)) (failures : ℕ) (contents : Option (List ℕ)) (now : ℕ) : Type 0 where
  pub known : IsNoted shape
  pub admitted : schema_admission limits o shape ≡ None
  pub part : List ℕ
  pub is_frame : IsFrameOf limits (schema_size o.align shape) (schema shape) [] part
  pub accepted : AcceptsBeginning base contents part
  pub failed : now ≡ failures + 1

-- the state of the sink, which held base, after a start that failed
abbrev pub StartFails : LimitNumbers → Options → SchemaShape → Option (List ℕ) → ℕ → WriteFault → Option (List ℕ) → ℕ → Type 0
StartFails limits o shape base failures TooLarge contents now = (schema_admission limits o shape ≡ Some TooLarge) × (contents ≡ base) × (now ≡ failures)
StartFails limits o shape base failures Memory contents now = (contents ≡ base) × (now ≡ failures)
StartFails limits o shape base failures Sink contents now = FailsAtStart limits o shape base failures contents now
StartFails limits o shape base failures k contents now = ⊥

-- the end marker was accepted
pub record Ends (old new : WriterView) : Type 0 where
  pub open_before : old.status ≡ statuses.Writing
  pub marker : List ℕ
  pub is_marker : IsMarker marker
  pub fits_in : marker_fits old.place ≡ true
  pub accepted : Appends old.contents new.contents marker
  pub new_is : new ≡ record old { place = old.place + 8; status = statuses.Finished; contents = new.contents }
  pub position : (base : Option (List ℕ)) (parts : List (List ℕ)) (batches : List Table) → IsWriterAt old base false parts batches →
      IsWriterAt new base true (parts ++ marker ∷ []) batches

-- the sink failed in the end marker, or when it was flushed
pub record FailsAtEnd (old new : WriterView) : Type 0 where
  pub open_before : old.status ≡ statuses.Writing
  pub marker : List ℕ
  pub is_marker : IsMarker marker
  pub fits_in : marker_fits old.place ≡ true
  pub accepted : AcceptsBeginning old.contents new.contents marker
  pub new_is : new ≡ record old { status = statuses.Broken; contents = new.contents; failures = old.failures + 1 }
  pub in_all : (base : Option (List ℕ)) (parts : List (List ℕ)) (batches : List Table) → IsWriterAt old base false parts batches →
      AcceptsBeginning base new.contents (joined (parts ++ marker ∷ []))

-- an end marker would pass the last offset, and nothing has changed
pub record PassesPlace (old new : WriterView) : Type 0 where
  pub open_before : old.status ≡ statuses.Writing
  pub passes : marker_fits old.place ≡ false
  pub unchanged : new ≡ old

-- what a finish returns
abbrev pub Finishes : WriterView → Result (Unit {0}) WriteFault → WriterView → Type 0
Finishes old (Ok done) new = Ends old new
Finishes old (Err TooLarge) new = PassesPlace old new
Finishes old (Err Sink) new = FailsAtEnd old new
Finishes old (Err Broken) new = Stays old statuses.Broken new
Finishes old (Err Finished) new = Stays old statuses.Finished new
Finishes old (Err Memory) new = ⊥
Finishes old (Err SchemaDiffers) new = ⊥
Finishes old (Err DictionariesDiffer) new = ⊥
