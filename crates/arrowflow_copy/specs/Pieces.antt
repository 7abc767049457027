-- The output of a copier whose stream comes in pieces (Columnar Format, "IPC Streaming Format").
use Rattle.std.specs.Prelude.{◌≡◌, ℕ, min, List, [], ◌++◌, length, take, drop, Option, None, Some, Result}
use Rattle.arrow_types.specs.Limits.{LimitNumbers}
use Rattle.arrow_stream_reader.specs.declared.reader.Verdict.TheVariants.{Open}
use Rattle.arrow_stream_reader.specs.Front.{Snapshot}
use Rattle.arrow_stream_reader.specs.Stream.{ReaderView}
use Rattle.arrow_stream_laws.specs.Sizes.{Options}
use Rattle.arrowflow_input.specs.Driver.{AreGiven}
use Rattle.arrowflow_input.specs.declared.tool_fault.ToolFault.{ToolFault}
use Rattle.arrowflow_copy.specs.Copy.{Copies, IsCopied}
use Rattle.arrowflow_copy.specs.Copying.{At, Began, IsCopying, failures_at}
use Rattle.arrowflow_copy.specs.Taken.{holding, with_taken}

-- how a copy ended
abbrev pub Answer : Type 0
Answer = Result (Unit {0}) ToolFault

-- The view of a copier: its limits and options, its reader, the state of its copy and how many batches that has, how
-- it ended, and the bytes that are written and wait to be taken.
pub record CopierView : Type 0 where
  pub limits : LimitNumbers
  pub options : Options
  pub reader : ReaderView
  pub at : At
  pub number : ℕ
  pub ended : Option Answer
  pub waiting : List ℕ

-- a copy into an output that holds nothing and has not failed
abbrev pub anew : LimitNumbers → Options → Began
anew limits o = record { limits = limits; options = o; first = Some []; failures = 0 }

-- A copier, which began within these limits and with these options, was given the bytes t, and goes on: none of their
-- messages is rejected and no end marker came. The bytes that were taken from it and those that wait are the output
-- for the batches of the complete messages at the start of t, without end marker. (The first field says the same of
-- the copier's parts.)
pub record GoesOnAt (limits : LimitNumbers) (o : Options) (v : CopierView) (t taken : List ℕ) : Type 0 where
  pub given : AreGiven (IsCopying (anew limits o) v.limits v.options (with_taken taken v.at) v.number) t v.reader
  pub is_open : v.reader.at.verdict ≡ Open
  pub copied : (e : Snapshot) × (e.verdict ≡ Open) × IsCopied limits o t e (Some []) (Some (taken ++ v.waiting))

-- Such a copier was given the bytes t, and ended with this result while this was left of its stream: the bytes that
-- were taken from it and those that wait are those that `copy` writes in this case.
abbrev pub HasEndedAt : LimitNumbers → Options → CopierView → List ℕ → List ℕ → Option (List ℕ) → Answer → Type 0
HasEndedAt limits o v t taken left answer = Copies limits o t left (Some []) 0 answer (Some (taken ++ v.waiting)) (failures_at v.at)

-- its state after a piece: it goes on, or has ended, whatever comes after
abbrev pub IsAfterPiece : LimitNumbers → Options → CopierView → List ℕ → List ℕ → Option Answer → Type 0
IsAfterPiece limits o v t taken None = GoesOnAt limits o v t taken
IsAfterPiece limits o v t taken (Some answer) = (left : Option (List ℕ)) → HasEndedAt limits o v t taken left answer

-- its state at the end of its stream
abbrev pub IsAtEnd : LimitNumbers → Options → CopierView → List ℕ → List ℕ → Option Answer → Type 0
IsAtEnd limits o v t taken None = ⊥
IsAtEnd limits o v t taken (Some answer) = HasEndedAt limits o v t taken (Some []) answer

-- A piece was given: if the copy has ended nothing changes; else the copier is in the state after a piece, whatever
-- it was given before, and whatever was taken.
pub record PutsPiece (old : CopierView) (piece : List ℕ) (new : CopierView) : Type 0 where
  pub stays : (answer : Answer) → old.ended ≡ Some answer → new ≡ old
  pub goes : (limits : LimitNumbers) (o : Options) (t taken : List ℕ) → old.ended ≡ None → GoesOnAt limits o old t taken → IsAfterPiece limits o new (t ++ piece) taken new.ended

-- The stream ended.
pub record PutsEnd (old new : CopierView) : Type 0 where
  pub stays : (answer : Answer) → old.ended ≡ Some answer → new ≡ old
  pub goes : (limits : LimitNumbers) (o : Options) (t taken : List ℕ) → old.ended ≡ None → GoesOnAt limits o old t taken → IsAtEnd limits o new t taken new.ended

-- n of the first bytes that waited, as many as fit, were moved to the start of a buffer, and nothing else changed:
-- the properties of the copier hold with these among the bytes that were taken.
pub record TakesWritten (old : CopierView) (room : List ℕ) (n : ℕ) (new : CopierView) (room' : List ℕ) : Type 0 where
  pub count : n ≡ min (length old.waiting) (length room)
  pub room_is : room' ≡ take n old.waiting ++ drop n room
  pub new_is : new ≡ record old { at = holding (Some (drop n old.waiting)) old.at; waiting = drop n old.waiting }
  pub goes_on : (limits : LimitNumbers) (o : Options) (t taken : List ℕ) → GoesOnAt limits o old t taken → GoesOnAt limits o new t (taken ++ take n old.waiting)
  pub has_ended : (limits : LimitNumbers) (o : Options) (t taken : List ℕ) (left : Option (List ℕ)) (answer : Answer) → HasEndedAt limits o old t taken left answer → HasEndedAt limits o new t (taken ++ take n old.waiting) left answer
