-- The number of bytes of buffers (Message.fbs, struct "Buffer").
use Rattle.std.specs.Prelude.{ℕ, ◌+◌, ℤ, pos, List, Bool, if◌then◌else◌}
use Rattle.std.specs.List.{sum_by}
use Rattle.arrow_types.specs.declared.node.Buffer.{Buffer}
use Rattle.arrowflow_contents.specs.declared.summary.Summary.{Summary}

-- a number, with 0 in place of a negative one
abbrev pub natural_or_none : ℤ → ℕ
natural_or_none (pos n) = n
natural_or_none _ = 0

-- the number of bytes of a buffer: 0 if its length is negative
abbrev pub bytes_in : Buffer → ℕ
bytes_in buffer = natural_or_none buffer.length

-- the total number of bytes of buffers
abbrev pub buffer_bytes : List Buffer → ℕ
buffer_bytes buffers = sum_by bytes_in buffers

-- the number of bytes of an end marker (Columnar Format, "IPC Streaming Format")
abbrev pub marker_bytes : Bool → ℕ
marker_bytes marked = if marked then 8 else 0

-- the total number of bytes of the messages of a stream and its end marker
abbrev pub stream_bytes : Summary → ℕ
stream_bytes summary = summary.schema_bytes + summary.dictionary_bytes + summary.batch_bytes + marker_bytes summary.marked
