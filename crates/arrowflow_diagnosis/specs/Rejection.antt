-- A message that a reader rejected, or that its input cut off.
use Rattle.std.specs.Prelude.{ℕ, List}
use Rattle.arrow_types.specs.Limits.{LimitNumbers}
use Rattle.arrow_stream_reader.specs.State.{StreamState}
use Rattle.arrowflow_diagnosis.specs.declared.rejected.Rejected.{Rejected}

-- the reader's limits, the state after the messages before, the offset at which the message begins, and its bytes as
-- far as they were read
pub record Situation : Type 0 where
  pub limits : LimitNumbers
  pub state : StreamState
  pub place : ℕ
  pub bytes : List ℕ

-- the situation that a `Rejected` of the program describes
abbrev pub situation_of : Rejected → Situation
situation_of r = record {
  limits = r.limits.now;
  state = r.reader.now.at.state;
  place = r.reader.now.at.place;
  bytes = r.message.now;
}
