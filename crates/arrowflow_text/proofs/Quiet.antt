-- What a report of messages into an output that keeps nothing says of its input.
use Rattle.std.proofs.Common.{ℕ, List, Option, None, Some, Result, Ok, Err, arith}
use Rattle.arrow_types.specs.Limits.{LimitNumbers}
use Rattle.arrowflow_input.specs.Quiet.{Checks, ChecksInput}
use Rattle.arrowflow_text.specs.Reports.{Reports, ReportsInput}
use Rattle.arrowflow_text.specs.declared.report.ReportKind.TheVariants.{Messages}
use Rattle.arrowflow_text.specs.WithinCalls.{ChecksWithin, ReportsWithin}
use Rattle.arrowflow_input.specs.declared.bounds.Excess.{Excess}
use Rattle.arrowflow_input.specs.declared.bounds.WholeLimits.{WholeLimits}
use Rattle.arrowflow_input.specs.declared.tool_fault.ToolFault.{ToolFault}
use Rattle.arrowflow_input.specs.declared.tool_fault.ToolFault.TheVariants.{Input, Output, Stream, Refused, Memory}

-- the report says how the stream ends; `Output` is not returned, as this output never fails
checks : (limits : LimitNumbers) (bytes : List ℕ) (left : Option (List ℕ)) (answer : Result (Unit {0}) ToolFault) → Reports Messages limits bytes left None 0 answer None 0 → Checks limits bytes left answer
checks limits bytes left (Ok done) h = (h.0, (h.1.entries, h.1.front), h.2)
checks limits bytes left (Err (Stream fault)) h = (h.0, (h.1.entries, h.1.front), h.2)
checks limits bytes left (Err (Input number)) h = (
  h.0,
  record {
    entries = h.1.2.entries;
    snapshot = h.1.0;
    front = h.1.2.front;
    goes_on = h.1.1;
  },
)
checks limits bytes left (Err Memory) h = tt
checks limits bytes left (Err Output) h = absurd (omega (arith, h.1))
checks limits bytes left (Err (Refused what kind)) h = absurd h

-- the same for an input
pub checked : (limits : LimitNumbers) (had left : Option (List ℕ)) (answer : Result (Unit {0}) ToolFault) → ReportsInput Messages limits had left None 0 answer None 0 → ChecksInput limits had left answer
checked limits had left answer h = (h.0, h.1, h.2, checks limits h.0 left answer h.3)

-- the same for an input with bounds
pub checked_within : (whole : WholeLimits) (limits : LimitNumbers) (had left : Option (List ℕ)) (excess : Option Excess) (answer : Result (Unit {0}) ToolFault) → ReportsWithin Messages whole limits had left excess None 0 answer None 0
    → ChecksWithin whole limits had left excess answer
checked_within whole limits had left None answer h = (h.0, h.1, h.2, checks limits h.0 left answer h.3, h.4)
checked_within whole limits had left (Some x) answer h = (h.0, h.1, h.2, h.3, checks limits h.0 left (Err (Input 0)) h.4, h.5)
