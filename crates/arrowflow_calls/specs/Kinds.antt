-- The numbers that report to a caller how a call ended. (They are this project's own.)
use Rattle.std.specs.Prelude.{ℕ, ◌+◌, Result, Ok, Err}
use Rattle.arrow_sink.specs.Refusals.{number_of as refusal_number}
use Rattle.arrow_stream_reader.specs.declared.fault.Fault.{Fault}
use Rattle.arrow_stream_reader.specs.Kind.{number_of}
use Rattle.arrowflow_input.specs.declared.what.RefusedItem.TheVariants.{Start, Batch, Finish}
use Rattle.arrowflow_input.specs.declared.tool_fault.ToolFault.{ToolFault}
use Rattle.arrowflow_input.specs.declared.tool_fault.ToolFault.TheVariants.{Input, Output, Stream, Refused, Memory}

-- an allocation failed: nothing is said of the stream
abbrev pub out_of_memory : ℕ
out_of_memory = 19

-- a limit is above its ceiling: nothing was read
abbrev pub bad_limits : ℕ
bad_limits = 20

-- the handle has no reader
abbrev pub no_handle : ℕ
no_handle = 21

-- the number of how a stream ends: 0 without a fault, else that of the fault's kind
abbrev pub kind_by : Result (Unit {0}) Fault → ℕ
kind_by (Ok done) = 0
kind_by (Err fault) = number_of fault.kind

-- the number of a fault
abbrev pub kind_of : ToolFault → ℕ
kind_of (Input number) = 22
kind_of Output = out_of_memory
kind_of (Stream fault) = number_of fault.kind
kind_of (Refused Start kind) = 30 + refusal_number kind
kind_of (Refused (Batch number) kind) = 40 + refusal_number kind
kind_of (Refused Finish kind) = 50 + refusal_number kind
kind_of Memory = out_of_memory

-- the place of a stream's fault, or the number of the rejected batch
abbrev pub place_of : ToolFault → ℕ
place_of (Input number) = 0
place_of Output = 0
place_of (Stream fault) = fault.place
place_of (Refused Start kind) = 0
place_of (Refused (Batch number) kind) = number
place_of (Refused Finish kind) = 0
place_of Memory = 0
