-- The messages at the start of bytes, one after the other (Columnar Format, "IPC Streaming Format").
use Rattle.std.specs.Prelude.{ℕ, ◌+◌, List, [], ◌∷◌, drop}
use Rattle.arrow_types.specs.Limits.{LimitNumbers}
use Rattle.arrow_stream_reader.specs.declared.kind.Rejection.{Rejection}
use Rattle.arrow_stream_reader.specs.declared.reader.Verdict.{Verdict}
use Rattle.arrow_stream_reader.specs.declared.reader.Verdict.TheVariants.{Open, Done, Bad}
use Rattle.arrow_stream_reader.specs.State.{StreamState, Given, ended, nothing_yet}
use Rattle.arrow_stream_reader.specs.Frame.{whole, marker, refused, waits, First}

-- the item of a message or of the end marker, and the offset of its end
pub record Entry : Type 0 where
  pub given : Given
  pub end : ℕ

-- where a stream has come to: the state after its messages, the offset of the remaining bytes, those bytes, and the
-- verdict on them
pub record Snapshot : Type 0 where
  pub state : StreamState
  pub place : ℕ
  pub rest : List ℕ
  pub verdict : Verdict

-- From this state and offset on, b is the messages that give these entries, followed by remaining bytes that begin
-- with no complete message: a message that waits for more bytes, one that is rejected, or the bytes after the end
-- marker.
pub data Front (limits : LimitNumbers) : StreamState → ℕ → List ℕ → List Entry → Snapshot → Type 0 where
  rests : {s : StreamState} {p : ℕ} {b : List ℕ} → First limits s p b waits →
      Front limits s p b [] (record { state = s; place = p; rest = b; verdict = Open })
  fails : {s : StreamState} {p : ℕ} {b : List ℕ} {k : Rejection} → First limits s p b (refused k) →
      Front limits s p b [] (record { state = s; place = p; rest = b; verdict = Bad k })
  closes : {s : StreamState} {p : ℕ} {b : List ℕ} → First limits s p b marker →
      Front limits s p b (record { given = ended; end = p + 8 } ∷ [])
      (record { state = s; place = p + 8; rest = drop 8 b; verdict = Done })
  goes_on : {s : StreamState} {p : ℕ} {b : List ℕ} {n : ℕ} {s' : StreamState} {g : Given} {es : List Entry}
      {e : Snapshot} → First limits s p b (whole n s' g) → Front limits s' (p + n) (drop n b) es e →
      Front limits s p b (record { given = g; end = p + n } ∷ es) e

-- the same from the beginning of a stream
abbrev pub FrontOf : LimitNumbers → List ℕ → List Entry → Snapshot → Type 0
FrontOf limits b es e = Front limits nothing_yet 0 b es e
