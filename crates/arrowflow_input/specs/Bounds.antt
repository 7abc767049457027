-- How much a whole stream may have, and at which offset it passes a bound. (This project's own.)
use Rattle.std.specs.Prelude.{◌≡◌, ◌≤◌, ◌<◌, ℕ, ◌+◌, List, [], ◌∷◌, ◌++◌, length, Option, None, Some, Result, Err, codes, ⊤}
use Rattle.std.specs.Fmt.{decimal}
use Rattle.arrow_stream_reader.specs.Front.{Entry, Snapshot}
use Rattle.arrow_stream_reader.specs.State.{Given, schema_given, dictionary_given, batch_given, ended}
use Rattle.arrowflow_input.specs.declared.bounds.Excess.{Excess}
use Rattle.arrowflow_input.specs.declared.bounds.Measure.{Measure}
use Rattle.arrowflow_input.specs.declared.bounds.Measure.TheVariants.{Rows, Messages, Bytes}
use Rattle.arrowflow_input.specs.declared.bounds.WholeLimits.{WholeLimits}
use Rattle.arrowflow_input.specs.declared.tool_fault.ToolFault.{ToolFault}
use Rattle.arrowflow_input.specs.declared.tool_fault.ToolFault.TheVariants.{Input}

-- ---- how much messages have

-- how many rows a message has: those of a batch
abbrev pub rows_by : Given → ℕ
rows_by schema_given = 0
rows_by (dictionary_given id) = 0
rows_by (batch_given batch) = batch.rows
rows_by ended = 0

-- as how many messages it counts: the end marker counts as none
abbrev pub messages_by : Given → ℕ
messages_by schema_given = 1
messages_by (dictionary_given id) = 1
messages_by (batch_given batch) = 1
messages_by ended = 0

-- how many rows these messages have
abbrev pub rows_in : List Entry → ℕ
rows_in [] = 0
rows_in (x ∷ xs) = rows_by x.given + rows_in xs

-- as how many messages they count
abbrev pub messages_in : List Entry → ℕ
messages_in [] = 0
messages_in (x ∷ xs) = messages_by x.given + messages_in xs

-- the offset at which the last of these messages ends, if the first begins at this offset
abbrev pub end_in : ℕ → List Entry → ℕ
end_in place [] = place
end_in place (x ∷ xs) = end_in x.end xs

-- ---- bounds

-- a number keeps a bound
abbrev pub IsKept : Option ℕ → ℕ → Type 0
IsKept None n = ⊤
IsKept (Some limit) n = n ≤ limit

-- a number passes this bound
abbrev pub IsPassed : Option ℕ → ℕ → ℕ → Type 0
IsPassed bound limit n = (bound ≡ Some limit) × (limit < n)

-- the messages of a stream keep all bounds
pub record AreWithin (whole : WholeLimits) (entries : List Entry) : Type 0 where
  pub rows : IsKept whole.rows (rows_in entries)
  pub messages : IsKept whole.messages (messages_in entries)
  pub bytes : IsKept whole.bytes (end_in 0 entries)

-- the messages pass this bound
abbrev pub Pass : WholeLimits → Measure → ℕ → List Entry → Type 0
Pass whole Rows limit entries = IsPassed whole.rows limit (rows_in entries)
Pass whole Messages limit entries = IsPassed whole.messages limit (messages_in entries)
Pass whole Bytes limit entries = IsPassed whole.bytes limit (end_in 0 entries)

-- ---- an input that has more bytes

-- a call over a reader in this state ended because its input has more bytes than are allowed
pub record IsLongerSo (bound : Option ℕ) (x : Excess) (at : Snapshot) (answer : Result (Unit {0}) ToolFault) : Type 0 where
  pub of_bytes : x.measure ≡ Bytes
  pub bounded : bound ≡ Some x.limit
  pub place : x.place ≡ at.place
  pub size : x.limit ≤ at.place + length at.rest
  pub number : ℕ
  pub failed : answer ≡ Err (Input number)

-- ---- what is said of it

-- the word for what a bound counts, after a blank
abbrev pub measure_text : Measure → List ℕ
measure_text Rows = codes " rows"
measure_text Messages = codes " messages"
measure_text Bytes = codes " bytes"

-- the line of a stream that passes a bound
abbrev pub excess_line : Excess → List ℕ
excess_line x = codes "limit at byte " ++ (decimal x.place ++ (codes ": more than " ++ (decimal x.limit ++ measure_text x.measure)))
