-- The view of a reader, and the results of its calls.
use Rattle.std.specs.Prelude.{◌≡◌, ℕ, ◌+◌, ◌<◌, ◌≤◌, ◌⊎◌, Bool, true, false, List, [], ◌∷◌, ◌++◌, length, take, Option, Some, None, is_some, Result, Ok, Err}
use Rattle.arrow_types.specs.Limits.{LimitNumbers}
use Rattle.arrow_stream_reader.specs.declared.kind.Kind.TheVariants.{Memory, NoSchema, Truncated}
use Rattle.arrow_stream_reader.specs.declared.kind.Rejection.{Rejection}
use Rattle.arrow_stream_reader.specs.declared.fault.Fault.{Fault}
use Rattle.arrow_stream_reader.specs.declared.item.Item.{Item}
use Rattle.arrow_stream_reader.specs.declared.item.Item.TheVariants.{End}
use Rattle.arrow_stream_reader.specs.declared.reader.Verdict.{Verdict}
use Rattle.arrow_stream_reader.specs.declared.reader.Verdict.TheVariants.{Open, Done, Bad}
use Rattle.arrow_stream_reader.specs.Kind.{kind_of}
use Rattle.arrow_stream_reader.specs.State.{nothing_yet}
use Rattle.arrow_stream_reader.specs.Front.{Entry, Snapshot, FrontOf}
use Rattle.arrow_stream_reader.specs.Views.{given}

-- The view of a reader: its limits, and where its stream has come to. While the stream is open, the remaining bytes
-- are those that the reader holds; after an error or the end marker it holds none.
pub record ReaderView : Type 0 where
  pub limits : LimitNumbers
  pub at : Snapshot

-- a reader that has received nothing
abbrev pub fresh : LimitNumbers → ReaderView
fresh limits = record {
  limits = limits;
  at = record { state = nothing_yet; place = 0; rest = []; verdict = Open };
}

-- A reader is at the bytes t of its stream, which gave these entries.
pub record IsReaderAt (r : ReaderView) (t : List ℕ) (es : List Entry) : Type 0 where
  pub rest : List ℕ
  pub front : FrontOf r.limits t es
      (record { state = r.at.state; place = r.at.place; rest = rest; verdict = r.at.verdict })
  pub held : r.at.verdict ≡ Open → rest ≡ r.at.rest

-- no item: the whole piece was taken, or nothing after the end marker
pub record TakesOn (old : ReaderView) (piece : List ℕ) (n : ℕ) (new : ReaderView) (t : List ℕ) (es : List Entry)
    : Type 0 where
  pub position : IsReaderAt new (t ++ take n piece) es
  pub all : old.at.verdict ≡ Open → n ≡ length piece
  pub same : new.at.verdict ≡ old.at.verdict
  pub none : old.at.verdict ≡ Done → n ≡ 0

-- the next item, whose last byte is the last one taken
pub record GivesNext (piece : List ℕ) (n : ℕ) (item : Item) (new : ReaderView) (t : List ℕ) (es : List Entry)
    : Type 0 where
  pub some : 0 < n
  pub within : n ≤ length piece
  pub position : IsReaderAt new (t ++ take n piece) (es ++ record { given = given item; end = length t + n } ∷ [])

-- the error at the start of the remaining bytes together with the whole piece
pub record RefusesMessage (piece : List ℕ) (fault : Fault) (new : ReaderView) (t : List ℕ) (es : List Entry) : Type 0 where
  pub refusal : Rejection
  pub kind : fault.kind ≡ kind_of refusal
  pub verdict : new.at.verdict ≡ Bad refusal
  pub place : fault.place ≡ new.at.place
  pub position : IsReaderAt new (t ++ piece) es
  pub held : new.at.rest ≡ []

-- an allocation failed: nothing was taken and nothing has changed
pub record NeedsMemory (old : ReaderView) (fault : Fault) (new : ReaderView) : Type 0 where
  pub fault_is : fault ≡ record { kind = Memory; place = old.at.place }
  pub same : new ≡ old

-- the result of a read, if the reader was at the bytes t with these entries
abbrev pub Answers : ReaderView → List ℕ → Result (ℕ × Option Item) Fault → ReaderView → List ℕ → List Entry → Type 0
Answers old piece (Ok (n, None)) new t es = TakesOn old piece n new t es
Answers old piece (Ok (n, Some item)) new t es = GivesNext piece n item new t es
Answers old piece (Err fault) new t es = NeedsMemory old fault new ⊎ RefusesMessage piece fault new t es

-- the effect of a read, for all bytes at which the reader is
abbrev pub ReadsOn : ReaderView → List ℕ → Result (ℕ × Option Item) Fault → ReaderView → Type 0
ReadsOn old piece result new = (t : List ℕ) (es : List Entry) → IsReaderAt old t es → Answers old piece result new t es

-- `Memory` is reported only if an allocation failed
abbrev pub MemoryAlone : ReaderView → ReaderView → Fault → Type 0
MemoryAlone old new fault = fault.kind ≡ Memory → NeedsMemory old fault new

-- The reader has failed with this fault: its state and offset are unchanged, it holds nothing, and its verdict is the
-- error that the fault reports.
pub record HasFailed (old new : ReaderView) (fault : Fault) : Type 0 where
  pub refusal : Rejection
  pub fault_is : fault ≡ record { kind = kind_of refusal; place = old.at.place }
  pub new_is : new ≡ record old { at = record old.at { rest = []; verdict = Bad refusal } }

-- a reader that reports a fault other than `Memory` has failed with it
abbrev pub FailsFor : ReaderView → ReaderView → Fault → Type 0
FailsFor old new fault = (fault.kind ≡ Memory → ⊥) → HasFailed old new fault

-- the bytes that a read takes: no more than the piece, and at least one with an item
abbrev pub TakesPiece : List ℕ → ℕ × Option Item → Type 0
TakesPiece piece (n, None) = n ≤ length piece
TakesPiece piece (n, Some item) = (0 < n) × (n ≤ length piece)

-- whether the stream is still open: the end marker ends it, another item does not, and without an item nothing
-- changes
abbrev pub GoesOn : Option Item → Verdict → Verdict → Type 0
GoesOn None old new = new ≡ old
GoesOn (Some item) old new = (new ≡ Open) ⊎ ((item ≡ End) × (new ≡ Done))

-- the result of ending a stream with this verdict, remaining bytes and their offset, after a schema or not
abbrev pub ended_by : Verdict → Bool → List ℕ → ℕ → Result (Unit {0}) Fault
ended_by (Bad k) has_schema rest place = Err (record { kind = kind_of k; place = place })
ended_by Done has_schema rest place = Ok tt
ended_by Open false rest place = Err (record { kind = NoSchema; place = place })
ended_by Open true [] place = Ok tt
ended_by Open true (x ∷ rest) place = Err (record { kind = Truncated; place = place })

-- the result of ending a stream here
abbrev pub ended_so : Snapshot → Result (Unit {0}) Fault
ended_so e = ended_by e.verdict (is_some e.state.schema) e.rest e.place
