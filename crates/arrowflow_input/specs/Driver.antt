-- How a stream ends whose messages are passed to a consumer as they come, piece by piece.
use Rattle.std.specs.Prelude.{◌≡◌, ◌⊎◌, ℕ, List, [], ◌++◌, Option, Result, Ok, Err}
use Rattle.std.specs.Io.KnownBytes.{Consumes}
use Rattle.arrow_types.specs.Limits.{LimitNumbers}
use Rattle.arrow_stream_reader.specs.declared.fault.Fault.{Fault}
use Rattle.arrow_stream_reader.specs.declared.reader.Verdict.TheVariants.{Open, Done}
use Rattle.arrow_stream_reader.specs.Front.{Entry, Snapshot, FrontOf}
use Rattle.arrow_stream_reader.specs.State.{nothing_yet}
use Rattle.arrow_stream_reader.specs.Stream.{ReaderView, IsReaderAt}
use Rattle.arrowflow_input.specs.Consumer.{OfInput, OfMessages}
use Rattle.arrowflow_input.specs.Reads.{IsReadWhile}
use Rattle.arrowflow_input.specs.Endings.{EndsBadly, IsBadBy}
use Rattle.arrowflow_input.specs.declared.driver.Progress.{Progress}
use Rattle.arrowflow_input.specs.declared.driver.Progress.TheVariants.{GoesOn, Marker, Stopped}
use Rattle.arrowflow_input.specs.declared.tool_fault.ToolFault.{ToolFault}
use Rattle.arrowflow_input.specs.declared.tool_fault.ToolFault.TheVariants.{Input, Memory, Stream}

-- A reader has read these bytes, and their messages were given to a consumer, which asks for more.
pub record AreGiven (keeps : OfMessages) (bytes : List ℕ) (r : ReaderView) : Type 0 where
  pub entries : List Entry
  pub position : IsReaderAt r bytes entries
  pub kept : keeps r.limits r.at.state entries

-- The same for a prefix of these bytes, and an allocation failed for the next message.
pub record NeedMemory (keeps : OfMessages) (bytes : List ℕ) (r : ReaderView) (fault : ToolFault) : Type 0 where
  pub is_memory : fault ≡ Memory
  pub taken : List ℕ
  pub rest : List ℕ
  pub whole : taken ++ rest ≡ bytes
  pub given : AreGiven keeps taken r

-- The same for all of these bytes, which are rejected.
pub record AreRefused (keeps : OfMessages) (bytes : List ℕ) (r : ReaderView) (fault : ToolFault) : Type 0 where
  pub refusal : Fault
  pub reported : fault ≡ Stream refusal
  pub bad : IsBadBy r.at.verdict r.at.place refusal
  pub given : AreGiven keeps bytes r

-- ---- a piece

-- What came of these bytes, the last of which were given as a piece.
abbrev pub PieceTaken : OfMessages → OfInput → List ℕ → ReaderView → Result Progress ToolFault → Type 0
PieceTaken keeps answers bytes r (Ok GoesOn) = AreGiven keeps bytes r
PieceTaken keeps answers bytes r (Ok Marker) = AreGiven keeps bytes r × (r.at.verdict ≡ Done)
PieceTaken keeps answers bytes r (Ok Stopped) = (left : Option (List ℕ)) → answers (Ok tt) r bytes left
PieceTaken keeps answers bytes r (Err fault) =
    ((left : Option (List ℕ)) → answers (Err fault) r bytes left) ⊎ AreRefused keeps bytes r fault ⊎ NeedMemory keeps bytes r fault

-- the same for all bytes that the reader may have read, and however the consumer began
abbrev pub TakesPiece : {Start C : Type 0} → (Start → C → OfMessages) → (Start → C → OfInput) → C → ReaderView → List ℕ → Result Progress ToolFault → C → ReaderView → Type 0
TakesPiece {Start} keeps answers c old piece answer c' new =
    (start : Start) (t : List ℕ) → AreGiven (keeps start c) t old → PieceTaken (keeps start c') (answers start c') (t ++ piece) new answer

-- ---- an input

-- The stream ended badly: it is rejected, or its input ends at an offset at which no stream may end.
pub record EndBadly (keeps : OfMessages) (bytes : List ℕ) (left : Option (List ℕ)) (r : ReaderView) (fault : ToolFault) : Type 0 where
  pub of_stream : Fault
  pub reported : fault ≡ Stream of_stream
  pub badly : EndsBadly left r.at of_stream
  pub given : AreGiven keeps bytes r

-- A read failed while the stream went on.
pub record FailToRead (keeps : OfMessages) (bytes : List ℕ) (r : ReaderView) (fault : ToolFault) : Type 0 where
  pub reported : fault ≡ Input 0
  pub is_open : r.at.verdict ≡ Open
  pub given : AreGiven keeps bytes r

-- How a call ended that read these bytes of an input of which this is left: by the consumer's answer, or before it
-- had one.
abbrev pub Driven : OfMessages → OfInput → List ℕ → Option (List ℕ) → ReaderView → Result (Unit {0}) ToolFault → Type 0
Driven keeps answers bytes left r (Ok done) = answers (Ok done) r bytes left
Driven keeps answers bytes left r (Err fault) =
    answers (Err fault) r bytes left ⊎ EndBadly keeps bytes left r fault ⊎ FailToRead keeps bytes r fault ⊎ NeedMemory keeps bytes r fault

-- At these bytes the stream goes on, and a consumer to which their messages were given asks for more.
pub record CallForMore {C : Type 0} (keeps : C → OfMessages) (limits : LimitNumbers) (bytes : List ℕ) : Type 0 where
  pub consumer : C
  pub entries : List Entry
  pub snapshot : Snapshot
  pub front : FrontOf limits bytes entries snapshot
  pub is_open : snapshot.verdict ≡ Open
  pub kept : keeps consumer limits snapshot.state entries

-- The same for an input that had these bytes before the call and has these after it, however the consumer began. No
-- piece was read after the one with which the consumer returned its answer, or with which the stream was rejected or
-- ended with its marker.
abbrev pub Drives : {Start C : Type 0} → (Start → C → OfMessages) → (Start → C → OfInput) → C → LimitNumbers → Option (List ℕ) → Option (List ℕ) → Result (Unit {0}) ToolFault → C → ReaderView → Type 0
Drives {Start} keeps answers c limits had left answer c' r =
    (start : Start) → keeps start c limits nothing_yet []
    → (bytes : List ℕ) × Consumes had left bytes × IsReadWhile (CallForMore (keeps start) limits) bytes × Driven (keeps start c') (answers start c') bytes left r answer
