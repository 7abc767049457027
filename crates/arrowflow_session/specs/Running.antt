-- How the writing of a connection advances, call by call.
use Rattle.std.specs.Prelude.{◌≡◌, ℕ, ℤ, ◌⊎◌, false, List, [], ◌∷◌, ◌++◌, drop, Some}
use Rattle.arrow_types.specs.Limits.{LimitNumbers}
use Rattle.arrow_types.specs.Notes.{SchemaShape}
use Rattle.arrow_data.specs.Batch.{Table}
use Rattle.arrow_data.specs.Column.{ValueList}
use Rattle.arrow_stream_reader.specs.State.{nothing_yet}
use Rattle.arrow_sink.specs.declared.write_fault.WriteFault.{WriteFault}
use Rattle.arrow_sink.specs.declared.write_fault.WriteFault.TheVariants.{TooLarge, Sink, Memory}
use Rattle.arrow_stream_laws.specs.Sizes.{Options}
use Rattle.arrow_stream_laws.specs.Admission.{admission, schema_admission, marker_fits}
use Rattle.arrow_stream_laws.specs.Frames.{Frame, frames_bytes, left_by}
use Rattle.arrow_stream_laws.specs.Text.{joined}
use Rattle.arrow_stream_laws.specs.Writer.{WriterView, IsWriterAt, Accepts, Ends}
use Rattle.arrow_stream_writer.specs.Shown.{shown}
use Rattle.arrow_stream_writer.specs.declared.stream_writer.StreamWriter.{StreamWriter}
use Rattle.arrowflow_session.specs.Asked.{Asked, Progress, begun, outcome_of, with_batches}
use Rattle.arrowflow_session.specs.Report.{Sends, items_of}
use Rattle.arrowflow_session.specs.declared.memory_sink.MemorySink.{MemorySink}
use Rattle.arrowflow_session.specs.declared.refusal.Refusal.{Refusal}
use Rattle.arrowflow_input.specs.declared.what.RefusedItem.TheVariants.{Start, Batch, Finish}
use Rattle.arrowflow_session.specs.declared.sending.Sent.{Sent}

-- the visible state of a writer into memory
abbrev pub shown_kept : StreamWriter MemorySink → WriterView
shown_kept w = shown (λ (k : MemorySink). Some k.bytes.items) (λ (k : MemorySink). k.count) w

-- why a start into memory fails: the schema is too large, or an allocation failed
abbrev pub StartsNot : LimitNumbers → Options → SchemaShape → WriteFault → Type 0
StartsNot limits o shape TooLarge = schema_admission limits o shape ≡ Some TooLarge
StartsNot limits o shape k = (k ≡ Memory) ⊎ (k ≡ Sink)

-- the messages of a batch were written, and kept as a part
pub record Keeps (old : WriterView) (t : Table) (parts : List (List ℕ)) (refused : List Refusal) (new : WriterView) (parts' : List (List ℕ)) (refused' : List Refusal) : Type 0 where
  pub accepts : Accepts old t new
  pub part : parts' ≡ parts ++ frames_bytes accepts.frames ∷ []
  pub same : refused' ≡ refused

-- the batch was rejected, and its rejection kept
pub record Skips (old : WriterView) (t : Table) (n : ℕ) (parts : List (List ℕ)) (refused : List Refusal) (new : WriterView) (parts' : List (List ℕ)) (refused' : List Refusal) : Type 0 where
  pub kind : WriteFault
  pub refusal : admission old.limits old.options old.shape old.sent old.place t ≡ Some kind
  pub unchanged : new ≡ old
  pub same : parts' ≡ parts
  pub one_more : refused' ≡ refused ++ record { what = Batch n; kind = kind } ∷ []

-- one or the other
abbrev pub Tries : WriterView → Table → ℕ → List (List ℕ) → List Refusal → WriterView → List (List ℕ) → List Refusal → Type 0
Tries old t n parts refused new parts' refused' = Keeps old t parts refused new parts' refused' ⊎ Skips old t n parts refused new parts' refused'

-- how far a writer has come that accepted these batches and rejected others
abbrev pub progress_at : WriterView → ℕ → List Table → List Refusal → Progress
progress_at w n admitted refused = record { tried = n; admitted = admitted; refused = refused; sent = w.sent; place = w.place }

-- A writer whose sink was empty at its start has tried the first n of all batches: with the remaining ones it comes
-- as far as from its beginning with all of them.
pub record SoFar (w : WriterView) (all : List Table) (n : ℕ) (parts : List (List ℕ)) (refused : List Refusal) : Type 0 where
  pub admitted : List Table
  pub position : IsWriterAt w (Some []) false parts admitted
  pub reliable : w.failures ≡ 0
  pub goes_on : with_batches w.limits w.options w.shape (progress_at w n admitted refused) (drop n all) ≡
      with_batches w.limits w.options w.shape (begun w.options w.shape) all

-- a writer has the same limits, options and fields as before
pub record IsOver (old new : WriterView) : Type 0 where
  pub limits : new.limits ≡ old.limits
  pub options : new.options ≡ old.options
  pub shape : new.shape ≡ old.shape

-- the end marker was written, and kept as a part
pub record Marks (old : WriterView) (parts : List (List ℕ)) (refused : List Refusal) (new : WriterView) (parts' : List (List ℕ)) (refused' : List Refusal) : Type 0 where
  pub ends : Ends old new
  pub part : parts' ≡ parts ++ ends.marker ∷ []
  pub same : refused' ≡ refused

-- it was rejected, and its rejection kept
pub record MarksNot (old : WriterView) (parts : List (List ℕ)) (refused : List Refusal) (new : WriterView) (parts' : List (List ℕ)) (refused' : List Refusal) : Type 0 where
  pub passes : marker_fits old.place ≡ false
  pub unchanged : new ≡ old
  pub same : parts' ≡ parts
  pub one_more : refused' ≡ refused ++ record { what = Finish; kind = TooLarge } ∷ []

-- one or the other
abbrev pub Finished : WriterView → List (List ℕ) → List Refusal → WriterView → List (List ℕ) → List Refusal → Type 0
Finished old parts refused new parts' refused' = Marks old parts refused new parts' refused' ⊎ MarksNot old parts refused new parts' refused'

-- What was sent over a connection: the parts, the rejections, the dictionaries at the end, and all bytes.
pub record SentPlain : Type 0 where
  pub parts : List (List ℕ)
  pub refused : List Refusal
  pub dictionaries : List (ℤ × ValueList)
  pub bytes : List ℕ

-- what was sent, as lists
abbrev pub sent_plain : Sent → SentPlain
sent_plain s = record { parts = items_of s.parts.items; refused = s.refused.items; dictionaries = s.dictionaries.items; bytes = s.bytes.items }

-- nothing was sent, and the start was rejected
pub record IsNothing (s : Sent) : Type 0 where
  pub parts : s.parts.items ≡ []
  pub refused : s.refused.items ≡ record { what = Start; kind = TooLarge } ∷ []
  pub dictionaries : s.dictionaries.items ≡ []
  pub bytes : s.bytes.items ≡ []

-- what was sent is the outcome of the connection
pub record IsSent (limits : LimitNumbers) (c : Asked) (s : SentPlain) : Type 0 where
  pub frames : List Frame
  pub sends : Sends (schema_admission limits c.options c.shape) limits c s.parts frames
  pub refused_are : s.refused ≡ (outcome_of limits c).refused
  pub dictionaries_are : s.dictionaries ≡ (outcome_of limits c).sent
  pub last_are : s.dictionaries ≡ (left_by nothing_yet frames).dictionaries
  pub all : s.bytes ≡ joined s.parts
