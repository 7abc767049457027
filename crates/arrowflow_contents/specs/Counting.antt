-- How a call that counts all messages of a stream ends.
use Rattle.std.specs.Prelude.{◌≡◌, ℕ, List, Option, Result, Ok, Err}
use Rattle.arrow_stream_reader.specs.Front.{Entry}
use Rattle.arrow_stream_reader.specs.Stream.{ReaderView, IsReaderAt}
use Rattle.arrowflow_input.specs.Endings.{EndsWell}
use Rattle.arrowflow_input.specs.declared.tool_fault.ToolFault.{ToolFault}
use Rattle.arrowflow_input.specs.declared.tool_fault.ToolFault.TheVariants.{Memory}

-- The reader has read these bytes, and their stream ended well.
pub record HasEndedWell (r : ReaderView) (bytes : List ℕ) (left : Option (List ℕ)) : Type 0 where
  pub entries : List Entry
  pub position : IsReaderAt r bytes entries
  pub well : EndsWell left r.at

-- a stream that ended well, or an allocation that failed
abbrev pub HasCounted : Result (Unit {0}) ToolFault → ReaderView → List ℕ → Option (List ℕ) → Type 0
HasCounted (Ok done) r bytes left = HasEndedWell r bytes left
HasCounted (Err fault) r bytes left = fault ≡ Memory
