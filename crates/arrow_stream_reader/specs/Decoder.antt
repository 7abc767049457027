-- The state of the decoder of messages, and what a step of it does.
use Rattle.std.specs.Prelude.{◌≡◌, ℕ, ◌+◌, ◌^◌, ◌<◌, ◌≤◌, ◌⊎◌, List, [], ◌++◌, length, take, drop, Option, Result, Ok, Err}
use Rattle.arrow_types.specs.Limits.{LimitNumbers}
use Rattle.arrow_stream_reader.specs.declared.kind.Rejection.{Rejection}
use Rattle.arrow_stream_reader.specs.declared.item.Item.{Item}
use Rattle.arrow_stream_reader.specs.declared.decode_error.DecodeError.{DecodeError}
use Rattle.arrow_stream_reader.specs.declared.decode_error.DecodeError.TheVariants.{Refused, Memory}
use Rattle.arrow_stream_reader.specs.declared.prefix.Prefix.TheVariants as prefixes
use Rattle.arrow_stream_reader.specs.declared.decoder.Phase.{Phase}
use Rattle.arrow_stream_reader.specs.declared.decoder.Phase.TheVariants as phases
use Rattle.arrow_stream_reader.specs.declared.decoder.Step.{Step}
use Rattle.arrow_stream_reader.specs.declared.decoder.Step.TheVariants as steps
use Rattle.arrow_stream_reader.specs.declared.decoder.Decoder.{Decoder}
use Rattle.arrow_stream_reader.specs.declared.reader.Verdict.{Verdict}
use Rattle.arrow_stream_reader.specs.declared.reader.Verdict.TheVariants.{Open, Done, Bad}
use Rattle.arrow_stream_reader.specs.Message.{Message}
use Rattle.arrow_stream_reader.specs.State.{StreamState, Given}
use Rattle.arrow_stream_reader.specs.BodyRead.{OneRead}
use Rattle.arrow_stream_reader.specs.Frame.{HasPrefix, HasMetadata, HasBody, Outcome, First, whole, marker, refused, waits}
use Rattle.arrow_stream_reader.specs.Views.{IsFit, plain, given, message_of}

-- n bytes of a piece were appended to the old ones: as many as there were, up to the number wanted
pub record Filled (old piece : List ℕ) (target n : ℕ) (new : List ℕ) : Type 0 where
  pub within : n ≤ length piece
  pub took : new ≡ old ++ take n piece
  pub rest : new ++ drop n piece ≡ old ++ piece
  pub enough : (length new ≡ target) ⊎ ((length new < target) × (new ≡ old ++ piece))

-- what the phase says of the bytes after the complete messages
abbrev pub verdict_of : Phase → Verdict
verdict_of phases.Prefix = Open
verdict_of (phases.Metadata m) = Open
verdict_of (phases.Body m t) = Open
verdict_of phases.Ended = Done
verdict_of (phases.Failed k) = Bad k

-- the stream is open, and the phase is what the bytes held so far have shown
abbrev pub Shown : LimitNumbers → StreamState → ℕ → List ℕ → Phase → Type 0
Shown l s p h phases.Prefix = length h ≤ 8
Shown l s p h (phases.Metadata m) = HasPrefix l s p h (Ok (prefixes.Metadata m)) × (length h ≤ 8 + m)
Shown l s p h (phases.Body m t) = HasMetadata l s p h m (Ok (message_of t)) × (length h ≤ 8 + m + t.body_len) × (l.max_rows ≤ 2147483647)
Shown l s p h phases.Ended = ⊥
Shown l s p h (phases.Failed k) = ⊥

-- the phase of the decoder of an open stream is what its held bytes have shown, its offset is not past the last one,
-- and its dictionaries have the schema's types
pub record IsAt (w : Decoder) : Type 0 where
  pub shown : Shown w.limits (plain w.state) w.place w.held.items w.phase
  pub near : w.place ≤ 2 ^ 62
  pub fit : IsFit (plain w.state)

-- the first outcome of b at the decoder's position
abbrev pub FirstAt : Decoder → List ℕ → Outcome → Type 0
FirstAt w b o = First w.limits (plain w.state) w.place b o

-- only the held bytes and the phase changed
pub record SameBut (old new : Decoder) : Type 0 where
  pub limits : new.limits ≡ old.limits
  pub state : plain new.state ≡ plain old.state
  pub place : new.place ≡ old.place

-- all the bytes b are held, and are less than a message
pub record Waited (old : Decoder) (b : List ℕ) (new : Decoder) : Type 0 where
  pub same : SameBut old new
  pub held : new.held.items ≡ b
  pub at : IsAt new
  pub first : FirstAt old b waits

-- a message of `size` bytes of b was complete, and gave the item
pub record Gave (old : Decoder) (b : List ℕ) (item : Item) (new : Decoder) : Type 0 where
  pub size : ℕ
  pub limits : new.limits ≡ old.limits
  pub place : new.place ≡ old.place + size
  pub covers : length old.held.items ≤ size
  pub held : new.held.items ≡ []
  pub at : IsAt new
  pub first : FirstAt old b (whole size (plain new.state) (given item))

-- the end marker was complete
pub record Marked (old : Decoder) (b : List ℕ) (new : Decoder) : Type 0 where
  pub same : SameBut old new
  pub covers : length old.held.items ≤ 8
  pub near : old.place + 8 ≤ 2 ^ 62
  pub first : FirstAt old b marker

-- the bytes held are a beginning of b, and include all bytes held before
pub record Stopped (old : Decoder) (b : List ℕ) (new : Decoder) : Type 0 where
  pub same : SameBut old new
  pub more : List ℕ
  pub held : b ≡ new.held.items ++ more
  pub covers : length old.held.items ≤ length new.held.items
  pub at : IsAt new

-- the message is rejected
pub record Failed (old : Decoder) (b : List ℕ) (k : Rejection) (new : Decoder) : Type 0 where
  pub stopped : Stopped old b new
  pub first : FirstAt old b (refused k)

-- the effect of the decoder's step on b, the bytes held and those of the piece
abbrev pub Works : Decoder → List ℕ → Result Step DecodeError → Decoder → Type 0
Works old b (Ok steps.Short) new = Waited old b new
Works old b (Ok steps.EndMarker) new = Marked old b new
Works old b (Ok (steps.Whole item)) new = Gave old b item new
Works old b (Err (Refused k)) new = Failed old b k new
Works old b (Err Memory) new = Stopped old b new

-- A message that consists of the bytes held was applied.
pub record Applied (old : Decoder) (m : ℕ) (message : Message) (item : Item) (new : Decoder) : Type 0 where
  pub limits : new.limits ≡ old.limits
  pub place : new.place ≡ old.place + length old.held.items
  pub held : new.held.items ≡ []
  pub at : IsAt new
  pub body : HasBody old.limits (plain old.state) old.place old.held.items m message (Ok (plain new.state, given item))

-- it was not applied, and only the phase changed
pub record NotApplied (old new : Decoder) : Type 0 where
  pub same : SameBut old new
  pub held : new.held.items ≡ old.held.items
  pub at : IsAt new

-- The result for a message that consists of the bytes held. An allocation may fail if its body is not rejected.
abbrev pub Finishes : Decoder → ℕ → Message → Result Step DecodeError → Decoder → Type 0
Finishes old m message (Ok steps.Short) new = ⊥
Finishes old m message (Ok steps.EndMarker) new = ⊥
Finishes old m message (Ok (steps.Whole item)) new = Applied old m message item new
Finishes old m message (Err (Refused k)) new =
    NotApplied old new × HasBody old.limits (plain old.state) old.place old.held.items m message (Err k)
Finishes old m message (Err Memory) new =
    NotApplied old new × ((left : StreamState × Given) × HasBody old.limits (plain old.state) old.place old.held.items m message (Ok left))

-- bytes that were read from an input were added to those held, and the message is not complete
pub record HasRead (old : Decoder) (had left : Option (List ℕ)) (n : ℕ) (new : Decoder) : Type 0 where
  pub piece : List ℕ
  pub read : OneRead had left n piece
  pub waited : Waited old (old.held.items ++ piece) new

-- nothing changed
pub record Unchanged (old new : Decoder) : Type 0 where
  pub same : SameBut old new
  pub held : new.held.items ≡ old.held.items
  pub phase : new.phase ≡ old.phase

-- only the first `count` bytes are still held
pub record Rewound (old : Decoder) (count : ℕ) (new : Decoder) : Type 0 where
  pub same : SameBut old new
  pub held : new.held.items ≡ take count old.held.items
  pub at : IsAt new
