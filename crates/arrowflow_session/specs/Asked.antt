-- What is asked of a connection, and its outcome by the definitions alone: which batches are accepted, and which are
-- rejected with which fault. (This project's own.)
use Rattle.std.specs.Prelude.{ℕ, ℤ, ◌+◌, ◌&&◌, Bool, true, false, List, [], ◌∷◌, ◌++◌, Option, Some, None}
use Rattle.arrow_types.specs.Limits.{LimitNumbers}
use Rattle.arrow_types.specs.Notes.{SchemaShape}
use Rattle.arrow_data.specs.Batch.{Table}
use Rattle.arrow_data.specs.Column.{ValueList}
use Rattle.arrow_sink.specs.declared.write_fault.WriteFault.{WriteFault}
use Rattle.arrow_sink.specs.declared.write_fault.WriteFault.TheVariants.{TooLarge}
use Rattle.arrow_stream_laws.specs.Sizes.{Options}
use Rattle.arrow_stream_laws.specs.Plan.{lists_after}
use Rattle.arrow_stream_laws.specs.Admission.{admission, schema_admission, marker_fits, part_size}
use Rattle.arrow_stream_laws.specs.Writer.{first_place}
use Rattle.arrow_stream_writer.specs.Shown.{options_view}
use Rattle.arrowflow_session.specs.declared.refusal.Refusal.{Refusal}
use Rattle.arrowflow_input.specs.declared.what.RefusedItem.TheVariants.{Start, Batch, Finish}
use Rattle.arrowflow_session.specs.declared.connection.Connection.{Connection}

-- What is asked of a connection: the schema and the batches to be written, with which options, whether with an end
-- marker, and how many bytes are delivered. Nothing depends on the pieces in which these come.
pub record Asked : Type 0 where
  pub shape : SchemaShape
  pub options : Options
  pub batches : List Table
  pub finish : Bool
  pub deliver : ℕ

-- what a caller asks
abbrev pub asked_of : Connection → Asked
asked_of c = record { shape = c.schema; options = options_view c.options; batches = c.batches.items; finish = c.finish; deliver = c.deliver }

-- How far the writing has come: how many batches were tried, those that were accepted, the rejections of the others,
-- the dictionaries that were sent, and the offset of the next frame.
pub record Progress : Type 0 where
  pub tried : ℕ
  pub admitted : List Table
  pub refused : List Refusal
  pub sent : List (ℤ × ValueList)
  pub place : ℕ

-- after the schema's frame
abbrev pub begun : Options → SchemaShape → Progress
begun o shape = record { tried = 0; admitted = []; refused = []; sent = []; place = first_place o shape }

-- after one more batch: an accepted one is sent with the dictionaries that it needs, a rejected one changes nothing
abbrev pub with_batch : Options → SchemaShape → Table → Option WriteFault → Progress → Progress
with_batch o shape t None p = record p {
  tried = p.tried + 1;
  admitted = p.admitted ++ t ∷ [];
  sent = lists_after o.updates shape.fields p.sent t;
  place = p.place + part_size o shape.fields p.sent t;
}
with_batch o shape t (Some k) p = record p { tried = p.tried + 1; refused = p.refused ++ record { what = Batch p.tried; kind = k } ∷ [] }

-- after these more batches, each accepted or rejected by the dictionaries and the offset after those before it
abbrev pub with_batches : LimitNumbers → Options → SchemaShape → Progress → List Table → Progress
with_batches limits o shape p [] = p
with_batches limits o shape p (t ∷ ts) = with_batches limits o shape (with_batch o shape t (admission limits o shape p.sent p.place t) p) ts

-- All that was written: the batches, the rejections, the dictionaries, and whether the end marker is the last part.
pub record Outcome : Type 0 where
  pub admitted : List Table
  pub refused : List Refusal
  pub sent : List (ℤ × ValueList)
  pub closed : Bool

-- the rejection of an end marker that is asked for and does not fit
abbrev pub marker_refusals : Bool → Bool → List Refusal
marker_refusals false fits = []
marker_refusals true true = []
marker_refusals true false = record { what = Finish; kind = TooLarge } ∷ []

-- after all batches: an end marker that is asked for is sent if it ends by offset 2^62, and rejected otherwise
abbrev pub ended_after : Bool → Progress → Outcome
ended_after finish p = record {
  admitted = p.admitted;
  refused = p.refused ++ marker_refusals finish (marker_fits p.place);
  sent = p.sent;
  closed = finish && marker_fits p.place;
}

-- if the schema is rejected, nothing is sent and no batch is tried
abbrev pub outcome_by : Option WriteFault → LimitNumbers → Asked → Outcome
outcome_by None limits c = ended_after c.finish (with_batches limits c.options c.shape (begun c.options c.shape) c.batches)
outcome_by (Some k) limits c = record { admitted = []; refused = record { what = Start; kind = k } ∷ []; sent = []; closed = false }

-- the outcome of a connection's writing, which depends only on what is asked of it
abbrev pub outcome_of : LimitNumbers → Asked → Outcome
outcome_of limits c = outcome_by (schema_admission limits c.options c.shape) limits c
