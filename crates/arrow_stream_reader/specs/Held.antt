-- What contracts see of the held bytes of a message, and of the bytes of its body.
use Rattle.std.specs.Prelude.{ℕ, ◌≤◌, List, length, drop}
use Rattle.arrow_stream_reader.specs.declared.body.BodyBytes.{BodyBytes}
use Rattle.arrow_stream_reader.specs.declared.body.BodyBytes.TheVariants as sources
use Rattle.arrow_stream_reader.specs.declared.pending_bytes.Storage.{Storage}
use Rattle.arrow_stream_reader.specs.declared.pending_bytes.Storage.TheVariants.{Growing, Whole}

-- the bytes held
pub record HeldBytes : Type 0 where
  pub items : List ℕ

-- those in memory that can grow, or in shared memory
abbrev pub bytes_in : Storage → List ℕ
bytes_in (Growing v) = v.items
bytes_in (Whole b) = b

-- the bytes of a body: those that are borrowed, or those of a message from an offset on
abbrev pub body_bytes : BodyBytes → List ℕ
body_bytes (sources.Lent b) = b.now
body_bytes (sources.Shared b start) = drop start b.now

-- the offset lies in the message
abbrev pub IsInside : BodyBytes → Type 0
IsInside (sources.Lent b) = Unit {0}
IsInside (sources.Shared b start) = start ≤ length b.now
