-- Why the first eight bytes of a message are rejected (Columnar Format, "Encapsulated message format").
use Rattle.std.specs.Prelude.{◌≡◌, ◌≤◌, ◌<◌, ◌+◌, ◌^◌, length, false, is_some}
use Rattle.arrow_stream_reader.specs.Frame.{has_continuation, number_at}
use Rattle.arrow_stream_reader.specs.declared.kind.Kind.{Kind}
use Rattle.arrow_stream_reader.specs.declared.kind.Kind.TheVariants as kinds
use Rattle.arrowflow_diagnosis.specs.Rejection.{Situation}
use Rattle.arrowflow_diagnosis.specs.declared.prefix.PrefixFault.{PrefixFault}
use Rattle.arrowflow_diagnosis.specs.declared.prefix.PrefixFault.TheVariants.{Continuation, MetadataSize, MetadataEnd, MarkerFirst}

-- the kind of a fault of the prefix
abbrev pub prefix_kind : PrefixFault → Kind
prefix_kind (Continuation found) = kinds.Continuation
prefix_kind (MetadataSize size) = kinds.MetadataSize
prefix_kind (MetadataEnd size) = kinds.MetadataSize
prefix_kind MarkerFirst = kinds.NoSchema

-- The fault holds for the prefix: bytes other than the continuation; a metadata size that is over the limit as an
-- unsigned number, or with which the metadata would end past byte 2^62; the end marker before a schema.
abbrev pub PrefixFails : PrefixFault → Situation → Type 0
PrefixFails (Continuation found) s = (8 ≤ length s.bytes) × (number_at s.bytes 0 ≡ found) × (has_continuation s.bytes ≡ false)
PrefixFails (MetadataSize size) s = (8 ≤ length s.bytes) × (number_at s.bytes 4 ≡ size) × (s.limits.max_metadata < size)
PrefixFails (MetadataEnd size) s = (8 ≤ length s.bytes) × (number_at s.bytes 4 ≡ size) × (2 ^ 62 < s.place + 8 + size)
PrefixFails MarkerFirst s = (8 ≤ length s.bytes) × (number_at s.bytes 4 ≡ 0) × (is_some s.state.schema ≡ false)
