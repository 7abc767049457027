-- A stream that is passed to a consumer as long as it keeps its bounds.
use Rattle.std.specs.Prelude.{◌≡◌, ◌≤◌, ◌⊎◌, ℕ, List, [], ◌∷◌, ◌++◌, length, Option, None, Some, Ok, IfErr, ⊤}
use Rattle.std.specs.Io.KnownBytes.{prepend_known}
use Rattle.arrow_types.specs.Limits.{LimitNumbers}
use Rattle.arrow_stream_reader.specs.declared.reader.Verdict.TheVariants.{Open}
use Rattle.arrow_stream_reader.specs.Front.{Entry, Snapshot, FrontOf}
use Rattle.arrow_stream_reader.specs.State.{StreamState}
use Rattle.arrow_stream_reader.specs.Stream.{ReaderView, IsReaderAt}
use Rattle.arrowflow_input.specs.Blame.{BlamesNone}
use Rattle.arrowflow_input.specs.Bounds.{AreWithin, IsKept, Pass, messages_in, rows_in, end_in}
use Rattle.arrowflow_input.specs.Consumer.{OfInput, OfMessages}
use Rattle.arrowflow_input.specs.Driver.{FailToRead}
use Rattle.arrowflow_input.specs.declared.bounds.Excess.{Excess}
use Rattle.arrowflow_input.specs.declared.bounds.Measure.TheVariants.{Bytes}
use Rattle.arrowflow_input.specs.declared.bounds.WholeLimits.{WholeLimits}
use Rattle.arrowflow_input.specs.declared.counting.Counts.{Counts}
use Rattle.arrowflow_input.specs.declared.tool_fault.ToolFault.TheVariants.{Input}

-- ---- counts

-- the number counted under a bound, which keeps it; without a bound nothing is counted
abbrev pub HasCounted : Option ℕ → ℕ → ℕ → Type 0
HasCounted None count n = ⊤
HasCounted (Some limit) count n = (count ≡ n) × (n ≤ limit)

-- the counts are those of these messages, which keep these bounds
pub record AreCounted (whole : WholeLimits) (counts : Counts) (entries : List Entry) : Type 0 where
  pub whole_is : counts.whole ≡ whole
  pub rows : HasCounted whole.rows counts.rows (rows_in entries)
  pub messages : HasCounted whole.messages counts.messages (messages_in entries)
  pub bytes : IsKept whole.bytes (end_in 0 entries)

-- ---- where a stream passes a bound

-- the next message passes the bound, and is in the bytes that follow
pub record IsPassedBy (whole : WholeLimits) (limits : LimitNumbers) (x : Excess) (taken more : List ℕ) (entries : List Entry) : Type 0 where
  pub message : List ℕ
  pub rest : List ℕ
  pub joined : more ≡ message ++ rest
  pub entry : Entry
  pub snapshot : Snapshot
  pub front : FrontOf limits (taken ++ message) (entries ++ entry ∷ []) snapshot
  pub passes : Pass whole x.measure x.limit (entries ++ entry ∷ [])

-- bytes follow, at least one of which is known
abbrev pub GoesOn : Option (List ℕ) → Type 0
GoesOn left = (byte : ℕ) × (rest : Option (List ℕ)) × (left ≡ prepend_known (byte ∷ []) rest)

-- the bytes are as many as are allowed, and the input, of which this is left, has more
pub record IsLonger (whole : WholeLimits) (x : Excess) (taken more : List ℕ) (left : Option (List ℕ)) : Type 0 where
  pub of_bytes : x.measure ≡ Bytes
  pub bound : whole.bytes ≡ Some x.limit
  pub size : x.limit ≤ length taken
  pub all : more ≡ []
  pub goes_on : GoesOn left

-- The complete messages at the start of the bytes that were taken keep all bounds, and the stream goes on; with the
-- bytes that follow it passes this bound, in the message at this offset. More was read, and this is left.
pub record HasExcess (whole : WholeLimits) (limits : LimitNumbers) (x : Excess) (taken more : List ℕ) (left : Option (List ℕ)) : Type 0 where
  pub entries : List Entry
  pub snapshot : Snapshot
  pub front : FrontOf limits taken entries snapshot
  pub is_open : snapshot.verdict ≡ Open
  pub place : x.place ≡ snapshot.place
  pub within : AreWithin whole entries
  pub passes : IsPassedBy whole limits x taken more entries ⊎ IsLonger whole x taken more left

-- ---- the consumer

-- how counting began: how its consumer began, and the bounds
pub record CountingBegan (Start : Type 0) : Type 0 where
  pub start : Start
  pub whole : WholeLimits

-- the messages are counted, and were given to a consumer
pub record IsCounting (whole : WholeLimits) (counts : Counts) (excess : Option Excess) (keeps : OfMessages) (limits : LimitNumbers) (state : StreamState) (entries : List Entry) : Type 0 where
  pub none : excess ≡ None
  pub counted : AreCounted whole counts entries
  pub kept : keeps limits state entries

-- The reader has read a prefix of these bytes, whose messages keep the bounds.
pub record IsReaderWithin (whole : WholeLimits) (r : ReaderView) (bytes : List ℕ) : Type 0 where
  pub taken : List ℕ
  pub rest : List ℕ
  pub joined : taken ++ rest ≡ bytes
  pub entries : List Entry
  pub position : IsReaderAt r taken entries
  pub within : AreWithin whole entries

-- A consumer was given the complete messages at the start of the bytes that were taken, and then a read failed; this
-- is what holds of a stream that passes a bound with the bytes that follow.
pub record IsCutBy (keeps : OfMessages) (whole : WholeLimits) (limits : LimitNumbers) (x : Excess) (taken more : List ℕ) (left : Option (List ℕ)) : Type 0 where
  pub reader : ReaderView
  pub limits_are : reader.limits ≡ limits
  pub fails : FailToRead keeps taken reader (Input 0)
  pub excess : HasExcess whole limits x taken more left

-- the same of these bytes
pub record IsCutIn (keeps : OfMessages) (whole : WholeLimits) (limits : LimitNumbers) (x : Excess) (bytes : List ℕ) (left : Option (List ℕ)) : Type 0 where
  pub taken : List ℕ
  pub more : List ℕ
  pub joined : taken ++ more ≡ bytes
  pub cut : IsCutBy keeps whole limits x taken more left

-- What the answer says of the bytes that were read: if no bound was passed, what the consumer's answer says.
abbrev pub HasCountedOn : WholeLimits → Option Excess → OfMessages → OfInput → OfInput
HasCountedOn whole None keeps answers answer r bytes left = answers answer r bytes left × IsReaderWithin whole r bytes × IfErr answer BlamesNone
HasCountedOn whole (Some x) keeps answers answer r bytes left = (answer ≡ Ok tt) × IsCutIn keeps whole r.limits x bytes left
