-- What was sent on a connection, and received of it (this project's own; Columnar Format, "IPC Streaming Format").
use Rattle.std.specs.Prelude.{◌≡◌, ℕ, ℤ, ◌≤◌, nat_lt, if◌then◌else◌, List, [], ◌∷◌, length, take, map, Option, Some, None, Vec}
use Rattle.std.specs.List.{AllByRecursion}
use Rattle.std.specs.declared.alloc.Global.{Global}
use Rattle.arrow_types.specs.Limits.{LimitNumbers}
use Rattle.arrow_data.specs.Batch.{Table}
use Rattle.arrow_data.specs.Column.{ValueList}
use Rattle.arrow_stream_reader.specs.declared.kind.Kind.TheVariants.{NoSchema, Truncated}
use Rattle.arrow_stream_reader.specs.State.{nothing_yet}
use Rattle.arrow_sink.specs.declared.write_fault.WriteFault.{WriteFault}
use Rattle.arrow_stream_laws.specs.Rows.{rows_of}
use Rattle.arrow_stream_laws.specs.Admission.{schema_admission}
use Rattle.arrow_stream_laws.specs.Frames.{Frame, IsStream, frames_bytes, left_by, lying}
use Rattle.arrow_stream_laws.specs.Text.{Written, joined, whole_batches}
use Rattle.arrowflow_input.specs.declared.session.Ending.{Ending}
use Rattle.arrowflow_input.specs.declared.session.Ending.TheVariants.{Clean, Fault}
use Rattle.arrowflow_session.specs.Asked.{Asked, asked_of, outcome_of}
use Rattle.arrowflow_session.specs.declared.refusal.Refusal.{Refusal}
use Rattle.arrowflow_session.specs.declared.connection.Connection.{Connection}
use Rattle.arrowflow_session.specs.declared.session.Report.{Report}

-- What is reported of a connection: the parts that were sent, the rejections, the dictionaries of the writer at the
-- end; the batches that the reader returned, its dictionaries at the end, and how the delivered bytes ended.
pub record Reported : Type 0 where
  pub parts : List (List ℕ)
  pub refused : List Refusal
  pub writer_dictionaries : List (ℤ × ValueList)
  pub handed : List Table
  pub reader_dictionaries : List (ℤ × ValueList)
  pub ending : Ending

-- these lists of bytes
abbrev pub items_of : List (Vec ℕ Global) → List (List ℕ)
items_of vs = map (λ v. v.items) vs

-- the contents of a report
abbrev pub reported_by : Report → Reported
reported_by r = record {
  parts = items_of r.parts.items;
  refused = r.refused.items;
  writer_dictionaries = r.writer_dictionaries.items;
  handed = r.received.handed.items;
  reader_dictionaries = r.received.reader_dictionaries.items;
  ending = r.received.ending;
}

-- The parts are the bytes of a connection with the accepted batches, in these frames; none if the schema is rejected.
abbrev pub Sends : Option WriteFault → LimitNumbers → Asked → List (List ℕ) → List Frame → Type 0
Sends None limits c parts frames = Written limits c.options c.shape (outcome_of limits c).closed parts (outcome_of limits c).admitted frames
Sends (Some k) limits c parts frames = (parts ≡ []) × (frames ≡ [])

-- the frames that were delivered completely
abbrev pub whole_frames : Asked → List Frame → List Frame
whole_frames c frames = lying c.deliver frames

-- How that many bytes end, whose complete frames are these: without a schema if not even the first frame is complete,
-- which is the schema's; cut off at the end of the last one if bytes follow it; else cleanly.
abbrev pub ending_after : List Frame → ℕ → Ending
ending_after [] count = Fault (record { kind = NoSchema; place = 0 })
ending_after (f ∷ fs) count =
    if nat_lt (length (frames_bytes (f ∷ fs))) count then Fault (record { kind = Truncated; place = length (frames_bytes (f ∷ fs)) }) else Clean

-- The main property, of one connection: what was sent is a stream of the accepted batches, and the others were
-- rejected; the reader returned the rows of exactly the batches whose last byte was delivered, in their order, each
-- with the schema of the connection and its indices looked up in the dictionaries of the batch that the caller gave;
-- after each frame that was delivered both ends had the same dictionaries; and how it ended.
pub record IsReport (limits : LimitNumbers) (c : Asked) (r : Reported) : Type 0 where
  pub frames : List Frame
  -- what was sent
  pub refused_are : r.refused ≡ (outcome_of limits c).refused
  pub sends : Sends (schema_admission limits c.options c.shape) limits c r.parts frames
  pub is_stream : schema_admission limits c.options c.shape ≡ None →
      IsStream limits (joined r.parts) c.shape (map rows_of (outcome_of limits c).admitted) r.writer_dictionaries
  pub writer_dictionaries_are : r.writer_dictionaries ≡ (outcome_of limits c).sent
  -- what was received of the delivered bytes
  pub handed_are : map rows_of r.handed ≡ take (whole_batches r.parts (outcome_of limits c).admitted c.deliver) (map rows_of (outcome_of limits c).admitted)
  pub schemas_are : AllByRecursion (λ (t : Table). t.schema ≡ c.shape) r.handed
  pub reader_dictionaries_are : r.reader_dictionaries ≡ (left_by nothing_yet (whole_frames c frames)).dictionaries
  pub ending_is : r.ending ≡ ending_after (whole_frames c frames) (length (take c.deliver (joined r.parts)))
  -- if all bytes were delivered
  pub all_handed : length (joined r.parts) ≤ c.deliver → map rows_of r.handed ≡ map rows_of (outcome_of limits c).admitted
  pub same_dictionaries : length (joined r.parts) ≤ c.deliver → r.reader_dictionaries ≡ r.writer_dictionaries

-- The main property: a report of each connection, in their order.
abbrev pub Reports : LimitNumbers → List Connection → List Report → Type 0
Reports limits [] [] = Unit {0}
Reports limits [] (r ∷ rs) = ⊥
Reports limits (c ∷ cs) [] = ⊥
Reports limits (c ∷ cs) (r ∷ rs) = IsReport limits (asked_of c) (reported_by r) × Reports limits cs rs
