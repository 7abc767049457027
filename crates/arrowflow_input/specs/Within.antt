-- What comes of an input whose stream has bounds.
use Rattle.std.specs.Prelude.{◌≡◌, ◌⊎◌, ℕ, List, [], ◌++◌, true, Option, None, Some, Result, Ok, Err, ⊤}
use Rattle.std.specs.Io.KnownBytes.{Consumes, prepend_known}
use Rattle.arrow_types.specs.Limits.{LimitNumbers}
use Rattle.arrow_stream_reader.specs.Front.{Entry, Snapshot, FrontOf}
use Rattle.arrow_stream_reader.specs.State.{nothing_yet}
use Rattle.arrow_stream_reader.specs.Stream.{ReaderView}
use Rattle.arrowflow_input.specs.Bounds.{AreWithin}
use Rattle.arrowflow_input.specs.Capped.{is_longer_by, waiting}
use Rattle.arrowflow_input.specs.Consumer.{OfInput, OfMessages}
use Rattle.arrowflow_input.specs.Counted.{HasExcess, IsCutBy, IsReaderWithin}
use Rattle.arrowflow_input.specs.Driver.{CallForMore, Driven}
use Rattle.arrowflow_input.specs.Reads.{IsReadWhile}
use Rattle.arrowflow_input.specs.declared.bounded.Bounded.{Bounded}
use Rattle.arrowflow_input.specs.declared.bounds.Excess.{Excess}
use Rattle.arrowflow_input.specs.declared.bounds.WholeLimits.{WholeLimits}
use Rattle.arrowflow_input.specs.declared.tool_fault.ToolFault.{ToolFault}
use Rattle.arrowflow_input.specs.declared.tool_fault.ToolFault.TheVariants.{Input, Output, Stream, Refused, Memory}

-- what is left of an input with bounds: the byte that waits, and what is left of the input
abbrev pub left_of : {R : Type 0} → (R → Option (List ℕ)) → Bounded R → Option (List ℕ)
left_of remaining b = prepend_known (waiting b.capped.next) (remaining b.capped.input)

-- its stream passed a bound, or its last read failed
abbrev pub IsToBlame : {R : Type 0} → (R → Type 0) → Bounded R → Type 0
IsToBlame failed b = (b.excess ≡ None → ⊥) ⊎ (is_longer_by b.capped.next ≡ true) ⊎ failed b.capped.input

-- ---- a consumer

-- How a call ended that read an input with bounds: like a call over the input without bounds, or like one over an
-- input of which a read failed before the message with which the stream passes this bound.
abbrev pub DrivenWithin : OfMessages → OfInput → (List ℕ → Type 0) → WholeLimits → LimitNumbers → Option (List ℕ) → Option (List ℕ) → Option Excess → Result (Unit {0}) ToolFault → ReaderView → Type 0
DrivenWithin keeps answers calls whole limits had left None answer r =
    (bytes : List ℕ) × Consumes had left bytes × IsReadWhile calls bytes × Driven keeps answers bytes left r answer × IsReaderWithin whole r bytes
DrivenWithin keeps answers calls whole limits had left (Some x) answer r =
    (taken : List ℕ) × (more : List ℕ) × Consumes had left (taken ++ more) × IsReadWhile calls (taken ++ more) × IsCutBy keeps whole limits x taken more left

-- the same however the consumer began
abbrev pub DrivesWithin : {Start C : Type 0} → (Start → C → OfMessages) → (Start → C → OfInput) → C → WholeLimits → LimitNumbers → Option (List ℕ) → Option (List ℕ) → Option Excess → Result (Unit {0}) ToolFault → C → ReaderView → Type 0
DrivesWithin {Start} keeps answers c whole limits had left excess answer c' r =
    (start : Start) → keeps start c limits nothing_yet [] → DrivenWithin (keeps start c') (answers start c') (CallForMore (keeps start) limits) whole limits had left excess answer r

-- ---- a call

-- what a call says, given the bytes that were read, what is left of the input, and its answer
abbrev pub OfCall : Type 1
OfCall = List ℕ → Option (List ℕ) → Result (Unit {0}) ToolFault → Type 0

-- the complete messages at the start of these bytes keep the bounds
abbrev pub IsWithin : WholeLimits → LimitNumbers → List ℕ → Type 0
IsWithin whole limits bytes = (entries : List Entry) × (e : Snapshot) × FrontOf limits bytes entries e × AreWithin whole entries

-- What an answer says of the bounds: a stream that ended or was rejected kept them as a whole, or no more of it was
-- asked for. If the output, an allocation or the writer failed, nothing is said.
abbrev pub KeepsTo : WholeLimits → LimitNumbers → Type 0 → List ℕ → Result (Unit {0}) ToolFault → Type 0
KeepsTo whole limits enough bytes (Ok done) = IsWithin whole limits bytes ⊎ enough
KeepsTo whole limits enough bytes (Err (Stream fault)) = IsWithin whole limits bytes
KeepsTo whole limits enough bytes (Err (Input number)) = IsWithin whole limits bytes
KeepsTo whole limits enough bytes (Err Output) = ⊤
KeepsTo whole limits enough bytes (Err Memory) = ⊤
KeepsTo whole limits enough bytes (Err (Refused what kind)) = ⊤

-- What is said of a call over an input with bounds. If the stream kept them, it is what is said of a call without
-- bounds; otherwise it is what is said of a call over an input of which a read failed after the bytes that were
-- taken, together with the bound that the stream passes and the offset. No piece was read after one with which the
-- bytes call for no more.
abbrev pub Within : (List ℕ → Type 0) → OfCall → (List ℕ → Type 0) → WholeLimits → LimitNumbers → Option (List ℕ) → Option (List ℕ) → Option Excess → Result (Unit {0}) ToolFault → Type 0
Within calls says enough whole limits had left None answer =
    (bytes : List ℕ) × Consumes had left bytes × IsReadWhile calls bytes × says bytes left answer × KeepsTo whole limits (enough bytes) bytes answer
Within calls says enough whole limits had left (Some x) answer =
    (taken : List ℕ) × (more : List ℕ) × Consumes had left (taken ++ more) × IsReadWhile calls (taken ++ more) × says taken left (Err (Input 0))
    × HasExcess whole limits x taken more left
