-- The result of sending streams again over connections (Columnar Format, "IPC Streaming Format").
use Rattle.std.specs.Prelude.{◌≡◌, ℕ, List, map, Option, Result, Ok, Err, ⊤, string_bytes}
use Rattle.std.specs.declared.alloc.Global.{Global}
use Rattle.std.specs.declared.string.String.{String}
use Rattle.arrowflow_session.specs.Asked.{asked_of}
use Rattle.arrowflow_session.specs.Report.{Reports}
use Rattle.arrowflow_session.specs.declared.connection.Connection.{Connection}
use Rattle.arrowflow_session.specs.declared.session.Report.{Report}
use Rattle.arrowflow_input.specs.declared.tool_fault.ToolFault.{ToolFault}
use Rattle.arrowflow_input.specs.declared.tool_fault.ToolFault.TheVariants.{Input, Output, Stream, Refused, Memory}
use Rattle.arrowflow_drill.specs.Lines.{lines_from}
use Rattle.arrowflow_drill.specs.Reading.{AreRead, Asks, EndsReading}

-- the requests for the connections are the same, one by one, except for the pieces in which they are delivered
abbrev pub AskTheSame : List Connection → List Connection → Type 0
AskTheSame old new = map asked_of new ≡ map asked_of old

-- The inputs were read as these connections, these are the reports of their results in pieces of this length, and the
-- text consists of the lines of exactly these.
pub record AreRehearsed {R : Type 0} (remaining : R → Option (List ℕ)) (has_failed : R → Type 0) (asks : Asks) (piece : ℕ) (hads lefts : List R) (text : List ℕ) (connections : List Connection) (reports : List Report) : Type 0 where
  pub read : AreRead remaining has_failed asks 0 hads lefts (map asked_of connections)
  pub reported : Reports asks.limits connections reports
  pub text_is : text ≡ lines_from piece 0 connections reports

-- There are such connections and reports.
abbrev pub IsRehearsed : {R : Type 0} → (R → Option (List ℕ)) → (R → Type 0) → Asks → ℕ → List R → List R → List ℕ → Type 0
IsRehearsed remaining has_failed asks piece hads lefts text = (connections : List Connection) × (reports : List Report) × AreRehearsed remaining has_failed asks piece hads lefts text connections reports

-- The result for inputs that had bytes before and have bytes after it: the text about what came of them, or the fault
-- of the first input that could not be read or was rejected. A failed allocation may end it at any time.
abbrev pub Drills : {R : Type 0} → (R → Option (List ℕ)) → (R → Type 0) → Asks → ℕ → List R → List R → Result (String Global) ToolFault → Type 0
Drills remaining has_failed asks piece hads lefts (Ok text) = IsRehearsed remaining has_failed asks piece hads lefts (string_bytes text)
Drills remaining has_failed asks piece hads lefts (Err (Stream fault)) = EndsReading remaining has_failed asks 0 hads lefts (Stream fault)
Drills remaining has_failed asks piece hads lefts (Err (Input number)) = EndsReading remaining has_failed asks 0 hads lefts (Input number)
Drills remaining has_failed asks piece hads lefts (Err Memory) = ⊤
Drills remaining has_failed asks piece hads lefts (Err Output) = ⊥
Drills remaining has_failed asks piece hads lefts (Err (Refused what kind)) = ⊥
