-- Answers that cover all bytes that were read.
use Rattle.std.specs.Prelude.{ℕ, ◌⊎◌, List, Result, Ok, Err, ⊤}
use Rattle.arrow_stream_reader.specs.Stream.{ReaderView}
use Rattle.arrowflow_input.specs.Session.{IsReaderAfter}
use Rattle.arrowflow_input.specs.declared.tool_fault.ToolFault.{ToolFault}
use Rattle.arrowflow_input.specs.declared.tool_fault.ToolFault.TheVariants.{Input, Output, Stream, Refused, Memory}

-- An answer that says how the stream ended is given by a reader that has read all of these bytes, or no more was
-- asked for.
abbrev pub IsThrough : Type 0 → Result (Unit {0}) ToolFault → ReaderView → List ℕ → Type 0
IsThrough enough (Ok done) r bytes = IsReaderAfter bytes r ⊎ enough
IsThrough enough (Err (Stream fault)) r bytes = IsReaderAfter bytes r
IsThrough enough (Err (Input number)) r bytes = IsReaderAfter bytes r
IsThrough enough (Err Output) r bytes = ⊤
IsThrough enough (Err Memory) r bytes = ⊤
IsThrough enough (Err (Refused what kind)) r bytes = ⊤
