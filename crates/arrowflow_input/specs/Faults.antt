-- What the program says of a fault, and its exit status. (Both are this project's own.)
use Rattle.std.specs.Prelude.{ℕ, Bool, true, false, if◌then◌else◌, List, ◌++◌, codes, Result, Ok, Err}
use Rattle.std.specs.Fmt.{decimal}
use Rattle.arrow_stream_reader.specs.declared.fault.Fault.{Fault}
use Rattle.arrow_stream_reader.specs.declared.kind.Kind.{Kind}
use Rattle.arrow_stream_reader.specs.declared.kind.Kind.TheVariants as kinds
use Rattle.arrow_stream_reader.specs.Kind.{fault_text}
use Rattle.arrow_sink.specs.declared.write_fault.WriteFault.{WriteFault}
use Rattle.arrow_sink.specs.declared.write_fault.WriteFault.TheVariants as refusals
use Rattle.arrowflow_input.specs.declared.what.RefusedItem.{RefusedItem}
use Rattle.arrowflow_input.specs.declared.what.RefusedItem.TheVariants.{Start, Batch, Finish}
use Rattle.arrowflow_input.specs.declared.tool_fault.ToolFault.{ToolFault}
use Rattle.arrowflow_input.specs.declared.tool_fault.ToolFault.TheVariants.{Input, Output, Stream, Refused, Memory}

-- the name of a writer's error
abbrev pub refusal_name : WriteFault → List ℕ
refusal_name refusals.SchemaDiffers = codes "SchemaDiffers"
refusal_name refusals.TooLarge = codes "TooLarge"
refusal_name refusals.DictionariesDiffer = codes "DictionariesDiffer"
refusal_name refusals.Sink = codes "Sink"
refusal_name refusals.Broken = codes "Broken"
refusal_name refusals.Finished = codes "Finished"
refusal_name refusals.Memory = codes "Memory"

-- the call that the writer rejected
abbrev pub what_text : RefusedItem → List ℕ
what_text Start = codes "schema"
what_text (Batch number) = codes "batch " ++ decimal number
what_text Finish = codes "end"

-- the line of a fault, given the names of the input that failed and of the output
abbrev pub fault_line : ToolFault → List ℕ → List ℕ → List ℕ
fault_line (Input number) read written = codes "cannot read " ++ read
fault_line Output read written = codes "cannot write " ++ written
fault_line (Stream fault) read written = fault_text fault
fault_line (Refused what kind) read written = codes "refused " ++ what_text what ++ codes ": " ++ refusal_name kind
fault_line Memory read written = codes "out of memory"

-- 1 if a stream or a write was rejected, 2 if an input, the output or an allocation failed
abbrev pub status_of : ToolFault → ℕ
status_of (Input number) = 2
status_of Output = 2
status_of (Stream fault) = 1
status_of (Refused what kind) = 1
status_of Memory = 2

-- whether a kind is a failed allocation, which says nothing of the stream
abbrev pub is_memory : Kind → Bool
is_memory kinds.Continuation = false
is_memory kinds.MetadataSize = false
is_memory kinds.Metadata = false
is_memory kinds.Version = false
is_memory kinds.Header = false
is_memory kinds.BodyLength = false
is_memory kinds.Order = false
is_memory kinds.Unsupported = false
is_memory kinds.Schema = false
is_memory kinds.Compressed = false
is_memory kinds.UnknownId = false
is_memory kinds.NoBase = false
is_memory kinds.Rows = false
is_memory kinds.Layout = false
is_memory kinds.Text = false
is_memory kinds.Index = false
is_memory kinds.NoSchema = false
is_memory kinds.Truncated = false
is_memory kinds.Memory = true

-- a reader's fault as a fault of the program
abbrev pub reported : Fault → ToolFault
reported fault = if is_memory fault.kind then Memory else Stream fault

-- what a reader returns for a stream that ends, as a result of the program
abbrev pub reported_end : Result (Unit {0}) Fault → Result (Unit {0}) ToolFault
reported_end (Ok done) = Ok done
reported_end (Err fault) = Err (reported fault)
