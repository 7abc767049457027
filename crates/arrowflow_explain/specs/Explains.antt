-- The result of explaining an input.
use Rattle.std.specs.Prelude.{◌≡◌, ℕ, List, ◌++◌, Option, Result, Ok, Err, ⊤, IfSome}
use Rattle.std.specs.Io.KnownBytes.{Consumes}
use Rattle.arrow_types.specs.Limits.{LimitNumbers}
use Rattle.arrow_stream_reader.specs.declared.fault.Fault.{Fault}
use Rattle.arrow_stream_reader.specs.declared.reader.Verdict.TheVariants.{Open, Done}
use Rattle.arrow_stream_reader.specs.Front.{Entry, Snapshot}
use Rattle.arrow_stream_reader.specs.Stream.{ReaderView, IsReaderAt}
use Rattle.arrowflow_input.specs.Quiet.{Checks, LeavesStream}
use Rattle.arrowflow_input.specs.Reads.{IsReadWhile}
use Rattle.arrowflow_input.specs.Endings.{EndsBadly, IsBadBy, IsOpenAt}
use Rattle.arrowflow_input.specs.declared.driver.Progress.{Progress}
use Rattle.arrowflow_input.specs.declared.driver.Progress.TheVariants.{GoesOn, Marker, Stopped}
use Rattle.arrowflow_input.specs.declared.tool_fault.ToolFault.{ToolFault}
use Rattle.arrowflow_input.specs.declared.tool_fault.ToolFault.TheVariants.{Input, Output, Stream, Refused, Memory}
use Rattle.arrowflow_contents.specs.Bodies.{SpotHolds}
use Rattle.arrowflow_contents.specs.Counting.{HasEndedWell}
use Rattle.arrowflow_diagnosis.specs.Holds.{Holds, kind_of}
use Rattle.arrowflow_diagnosis.specs.Rejection.{Situation}
use Rattle.arrowflow_explain.specs.declared.explanation.Explanation.{Explanation}
use Rattle.arrowflow_explain.specs.declared.explanation.Explanation.TheVariants.{Sound, Rejected}
use Rattle.arrowflow_explain.specs.declared.explanation.RejectedMessage.{RejectedMessage}

-- the state of a stream after its complete messages, with the limits of its reader
abbrev pub situation_at : LimitNumbers → Snapshot → Situation
situation_at limits e = record { limits = limits; state = e.state; place = e.place; bytes = e.rest }

-- The stream of these bytes, read within these limits, ends with this fault. The bytes that were kept are those of the
-- current message. The diagnosis has the fault's kind and holds for these bytes; so does a body spot.
pub record IsRefusalOf (refusal : RejectedMessage) (limits : LimitNumbers) (bytes : List ℕ) (left : Option (List ℕ)) : Type 0 where
  pub snapshot : Snapshot
  pub leaves : LeavesStream limits bytes snapshot
  pub badly : EndsBadly left snapshot refusal.fault
  pub message : refusal.message.items ≡ snapshot.rest
  pub within : refusal.limits ≡ limits
  pub kind : kind_of refusal.diagnosis ≡ refusal.fault.kind
  pub holds : Holds refusal.diagnosis (situation_at limits snapshot)
  pub spot : IfSome refusal.spot (λ spot. SpotHolds spot (situation_at limits snapshot))

-- The result after these bytes were read of an input with this left: that of a check, with the reason for a fault.
abbrev pub Explains : LimitNumbers → List ℕ → Option (List ℕ) → Result Explanation ToolFault → Type 0
Explains limits bytes left (Ok (Sound summary)) = Checks limits bytes left (Ok tt)
Explains limits bytes left (Ok (Rejected refusal)) = IsRefusalOf refusal limits bytes left
Explains limits bytes left (Err (Stream fault)) = ⊥
Explains limits bytes left (Err (Input number)) = Checks limits bytes left (Err (Input number))
Explains limits bytes left (Err Memory) = Checks limits bytes left (Err Memory)
Explains limits bytes left (Err Output) = ⊥
Explains limits bytes left (Err (Refused what kind)) = ⊥

-- the same for an input that had these bytes before the call and has these after it
abbrev pub ExplainsInput : LimitNumbers → Option (List ℕ) → Option (List ℕ) → Result Explanation ToolFault → Type 0
ExplainsInput limits had left answer = (bytes : List ℕ) × Consumes had left bytes × IsReadWhile (IsOpenAt limits) bytes × Explains limits bytes left answer

-- The reason why a reader in this state, at a message with these bytes, reports that its stream ends with this fault.
pub record IsMadeOf (fault : Fault) (limits : LimitNumbers) (at : Snapshot) (kept : List ℕ) (refusal : RejectedMessage) : Type 0 where
  pub same : refusal.fault ≡ fault
  pub message : refusal.message.items ≡ kept
  pub within : refusal.limits ≡ limits
  pub kind : kind_of refusal.diagnosis ≡ fault.kind
  pub holds : Holds refusal.diagnosis (record { limits = limits; state = at.state; place = at.place; bytes = kept })
  pub spot : IfSome refusal.spot (λ spot. SpotHolds spot (record { limits = limits; state = at.state; place = at.place; bytes = kept }))

-- A reader has read these bytes of a stream, and those of its current message are kept.
pub record IsKept (bytes : List ℕ) (r : ReaderView) (kept : List ℕ) : Type 0 where
  pub entries : List Entry
  pub position : IsReaderAt r bytes entries
  pub same : kept ≡ position.rest

-- The result after these bytes, the last of which the reader was given as a piece.
abbrev pub KeepsPiece : List ℕ → Result Progress ToolFault → ReaderView → List ℕ → Type 0
KeepsPiece bytes (Ok GoesOn) r kept = IsKept bytes r kept × (r.at.verdict ≡ Open)
KeepsPiece bytes (Ok Marker) r kept = IsKept bytes r kept × (r.at.verdict ≡ Done)
KeepsPiece bytes (Ok Stopped) r kept = (left : Option (List ℕ)) → HasEndedWell r bytes left
KeepsPiece bytes (Err (Stream fault)) r kept = IsKept bytes r kept × IsBadBy r.at.verdict r.at.place fault
KeepsPiece bytes (Err Memory) r kept = ⊤
KeepsPiece bytes (Err (Input number)) r kept = ⊥
KeepsPiece bytes (Err Output) r kept = ⊥
KeepsPiece bytes (Err (Refused what kind)) r kept = ⊥

-- the same for all bytes that an open reader may have read before
abbrev pub KeepsOn : ReaderView → List ℕ → List ℕ → Result Progress ToolFault → ReaderView → List ℕ → Type 0
KeepsOn old kept piece answer new kept' =
    (bytes : List ℕ) → IsKept bytes old kept → old.at.verdict ≡ Open → KeepsPiece (bytes ++ piece) answer new kept'
