-- What a consumer does with a stream whose messages it is given one by one.
use Rattle.std.specs.Prelude.{◌≡◌, ℕ, ◌+◌, List, ◌∷◌, [], ◌++◌, length, Bool, true, false, Option, Result, Ok, Err}
use Rattle.arrow_types.specs.Limits.{LimitNumbers}
use Rattle.arrow_stream_reader.specs.declared.item.Item.{Item}
use Rattle.arrow_stream_reader.specs.declared.reader.Verdict.{Verdict}
use Rattle.arrow_stream_reader.specs.declared.reader.Verdict.TheVariants.{Open, Done}
use Rattle.arrow_stream_reader.specs.Front.{Entry}
use Rattle.arrow_stream_reader.specs.State.{StreamState}
use Rattle.arrow_stream_reader.specs.Stream.{ReaderView, IsReaderAt, GivesNext}
use Rattle.arrow_stream_reader.specs.Views.{given}
use Rattle.arrowflow_input.specs.Endings.{EndsWell}
use Rattle.std.specs.declared.ops.ControlFlow.{ControlFlow}
use Rattle.std.specs.declared.ops.ControlFlow.TheVariants.{Continue, Break}
use Rattle.arrowflow_input.specs.declared.tool_fault.ToolFault.{ToolFault}

-- what holds of the messages so far, given the reader's limits and the state that they left
abbrev pub OfMessages : Type 1
OfMessages = LimitNumbers → StreamState → List Entry → Type 0

-- what holds of bytes that were read of an input, given the answer, the reader's state and what is left of the input
abbrev pub OfInput : Type 1
OfInput = Result (Unit {0}) ToolFault → ReaderView → List ℕ → Option (List ℕ) → Type 0

-- After the bytes t, which gave these entries, a reader was given a piece, and with its first n bytes a message came
-- that begins at this offset.
pub record Comes (place : ℕ) (item : Item) (old new : ReaderView) (t : List ℕ) (es : List Entry) (piece : List ℕ) (n : ℕ) : Type 0 where
  pub before : IsReaderAt old t es
  pub is_open : old.at.verdict ≡ Open
  pub begins : place ≡ old.at.place
  pub limits : new.limits ≡ old.limits
  pub gives : GivesNext piece n item new t es

-- what a message adds to the entries of a stream
abbrev pub entry_of : Item → List ℕ → ℕ → Entry
entry_of item t n = record { given = given item; end = length t + n }

-- What a consumer did with a message: it asks for more, or it returned an answer, whatever is left of the input.
abbrev pub Took : OfMessages → OfInput → Result (ControlFlow (Unit {0}) (Unit {0})) ToolFault → ReaderView → List ℕ → List Entry → Type 0
Took keeps answers (Ok (Continue tt)) r bytes es = keeps r.limits r.at.state es
Took keeps answers (Ok (Break tt)) r bytes es = (left : Option (List ℕ)) → answers (Ok tt) r bytes left
Took keeps answers (Err fault) r bytes es = (left : Option (List ℕ)) → answers (Err fault) r bytes left

-- the same at whatever offset the message came, and however the consumer began
abbrev pub Takes : {Start C : Type 0} → (Start → C → OfMessages) → (Start → C → OfInput) → C → ℕ → Item → ReaderView → Result (ControlFlow (Unit {0}) (Unit {0})) ToolFault → C → Type 0
Takes {Start} keeps answers c place item new answer c' =
    (start : Start) (old : ReaderView) (t : List ℕ) (es : List Entry) (piece : List ℕ) (n : ℕ) → Comes place item old new t es piece n → keeps start c old.limits old.at.state es
    → Took (keeps start c') (answers start c') answer new (t ++ piece) (es ++ entry_of item t n ∷ [])

-- the verdict on a stream that ended well: with its end marker, or at the end of a message
abbrev pub IsEndedBy : Bool → Verdict → Type 0
IsEndedBy true verdict = verdict ≡ Done
IsEndedBy false verdict = verdict ≡ Open

-- The stream of these messages ended well, with its end marker or with its input, of which this is left.
pub record HasEnded (marked : Bool) (r : ReaderView) (bytes : List ℕ) (left : Option (List ℕ)) (es : List Entry) : Type 0 where
  pub position : IsReaderAt r bytes es
  pub well : EndsWell left r.at
  pub ended_by : IsEndedBy marked r.at.verdict

-- what a consumer returns then
abbrev pub Ends : {Start C : Type 0} → (Start → C → OfMessages) → (Start → C → OfInput) → C → Bool → ReaderView → Result (Unit {0}) ToolFault → C → Type 0
Ends {Start} keeps answers c marked r answer c' =
    (start : Start) (bytes : List ℕ) (left : Option (List ℕ)) (es : List Entry) → HasEnded marked r bytes left es → keeps start c r.limits r.at.state es → answers start c' answer r bytes left
