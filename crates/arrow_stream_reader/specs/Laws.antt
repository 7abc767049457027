-- The laws of the definitions.
use Rattle.std.specs.Prelude.{◌≡◌, ℕ, ◌<◌, List, ◌++◌, take}
use Rattle.arrow_types.specs.Limits.{LimitNumbers}
use Rattle.arrow_stream_reader.specs.declared.reader.Verdict.TheVariants.{Open}
use Rattle.arrow_stream_reader.specs.State.{StreamState, Given}
use Rattle.arrow_stream_reader.specs.Frame.{First, whole, waits}
use Rattle.arrow_stream_reader.specs.Front.{Entry, Snapshot, FrontOf}
use Rattle.arrow_stream_reader.specs.Stream.{ReaderView, IsReaderAt}

-- a list of bytes has at most one `Front`
abbrev pub OneFront : Type 0
OneFront =
    (limits : LimitNumbers) (b : List ℕ) (es fs : List Entry) (e f : Snapshot) →
    FrontOf limits b es e → FrontOf limits b fs f → (es ≡ fs) × (e ≡ f)

-- No list of bytes is without a `Front`: it is refuted that no entries and no `Snapshot` are one of it. The law has
-- this form since no definition decides whether a tree lies in bytes, or whether a body is laid out as its fields
-- need.
abbrev pub NoneWithoutFront : Type 0
NoneWithoutFront =
    (limits : LimitNumbers) (b : List ℕ) → ((es : List Entry) (e : Snapshot) → FrontOf limits b es e → ⊥) → ⊥

-- More bytes keep the entries; if the stream has ended, by an error or by the end marker, they also keep its end, and
-- are added to its remaining bytes.
abbrev pub MoreBytes : Type 0
MoreBytes =
    (limits : LimitNumbers) (b c : List ℕ) (es fs : List Entry) (e f : Snapshot) →
    FrontOf limits b es e → FrontOf limits (b ++ c) fs f →
    ((more : List Entry) × (fs ≡ es ++ more))
    × ((e.verdict ≡ Open → ⊥) → (fs ≡ es) × (f ≡ record e { rest = e.rest ++ c }))

-- readers at the same bytes show the same, in whatever pieces the bytes came
abbrev pub SameSnapshot : Type 0
SameSnapshot =
    (r q : ReaderView) (t : List ℕ) (es fs : List Entry) →
    IsReaderAt r t es → IsReaderAt q t fs → r.limits ≡ q.limits →
    (es ≡ fs) × (r.at.state ≡ q.at.state) × (r.at.place ≡ q.at.place) × (r.at.verdict ≡ q.at.verdict)
    × (r.at.verdict ≡ Open → r.at.rest ≡ q.at.rest)

-- Less than a complete message waits: no part of a frame is checked, applied or delivered before the message is
-- complete.
abbrev pub LessWaits : Type 0
LessWaits =
    (limits : LimitNumbers) (s s' : StreamState) (place n k : ℕ) (g : Given) (b : List ℕ) →
    First limits s place b (whole n s' g) → k < n → First limits s place (take k b) waits
