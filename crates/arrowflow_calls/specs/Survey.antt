-- What is reported of bytes that were read to their end (Columnar Format, "IPC Streaming Format").
use Rattle.std.specs.Prelude.{◌≡◌, ◌⊎◌, ℕ, ◌+◌, ◌-◌, ◌^◌, min, Bool, true, false, List, [], ◌∷◌, length, Ok}
use Rattle.arrow_types.specs.Limits.{LimitNumbers}
use Rattle.arrow_data.specs.Batch.{Table}
use Rattle.arrow_stream_reader.specs.declared.reader.Verdict.{Verdict}
use Rattle.arrow_stream_reader.specs.declared.reader.Verdict.TheVariants.{Open, Done, Bad}
use Rattle.arrow_stream_reader.specs.Front.{Entry, Snapshot, FrontOf}
use Rattle.arrow_stream_reader.specs.Stream.{ReaderView, IsReaderAt, ended_so}
use Rattle.arrow_stream_reader.specs.Tables.{tables_of}
use Rattle.arrowflow_input.specs.Consumer.{OfInput, OfMessages}
use Rattle.arrowflow_calls.specs.declared.scan.ReportC.{ReportC}
use Rattle.arrowflow_calls.specs.declared.scan.StreamCounts.{StreamCounts}
use Rattle.arrowflow_calls.specs.declared.terms.LimitsC.{LimitsC}
use Rattle.arrowflow_calls.specs.Kinds.{bad_limits, kind_by, out_of_memory}
use Rattle.arrowflow_calls.specs.Terms.{AreLimits, numbers}

-- a report with only this kind
abbrev pub bare_report : ℕ → ReportC
bare_report kind = record { kind = kind; ended = false; place = 0; batches = 0; rows = 0 }

-- a number as it is reported: at most the greatest 64-bit number
abbrev pub reported : ℕ → ℕ
reported n = min n (2 ^ 64 - 1)

-- how many rows the batches have together
abbrev pub rows_in : List Table → ℕ
rows_in [] = 0
rows_in (t ∷ ts) = t.rows + rows_in ts

-- the counts of these batches, and whether the end marker came after them
abbrev pub counts_of : List Table → Bool → StreamCounts
counts_of tables ended = record { batches = reported (length tables); rows = reported (rows_in tables); ended = ended }

-- the batches of these messages were counted, and no end marker yet
abbrev pub Counts : StreamCounts → OfMessages
Counts n limits state entries = n ≡ counts_of (tables_of entries) false

-- whether a stream with this verdict ended with its marker
abbrev pub is_done : Verdict → Bool
is_done Open = false
is_done Done = true
is_done (Bad k) = false

-- the reader has read exactly these bytes, and what their messages gave was counted
pub record HasCounted (bytes : List ℕ) (n : StreamCounts) (r : ReaderView) : Type 0 where
  pub entries : List Entry
  pub position : IsReaderAt r bytes entries
  pub counted : n ≡ counts_of (tables_of entries) (is_done r.at.verdict)

-- a consumer of all messages returns that they were counted
abbrev pub AllCounted : StreamCounts → OfInput
AllCounted n answer r bytes left = (answer ≡ Ok tt) × HasCounted bytes n r

-- What is reported of these bytes: how the stream ends after them, where, and what its complete messages gave.
pub record IsReport (limits : LimitNumbers) (bytes : List ℕ) (r : ReportC) : Type 0 where
  pub entries : List Entry
  pub snapshot : Snapshot
  pub front : FrontOf limits bytes entries snapshot
  pub kind : r.kind ≡ kind_by (ended_so snapshot)
  pub is_ended : r.ended ≡ is_done snapshot.verdict
  pub place : r.place ≡ snapshot.place
  pub batches : r.batches ≡ reported (length (tables_of entries))
  pub rows : r.rows ≡ reported (rows_in (tables_of entries))

-- the same, or only that an allocation failed
abbrev pub Reports : LimitNumbers → List ℕ → ReportC → Type 0
Reports limits bytes r = IsReport limits bytes r ⊎ (r ≡ bare_report out_of_memory)

-- Limits above their ceilings, and a set of types that does not exist, are reported with a kind of their own.
abbrev pub Checks : LimitsC → List ℕ → ReportC → Type 0
Checks limits bytes r = (AreLimits limits × Reports (numbers limits) bytes r) ⊎ ((AreLimits limits → ⊥) × (r ≡ bare_report bad_limits))
