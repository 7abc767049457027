-- The bytes of a message's metadata as they are written, and their number.
use Rattle.std.specs.Prelude.{ℕ, ◌^◌, List, Bool, true, false, ◌&&◌, Option, Some, None, nat_le}
use Rattle.std.specs.Prelude.{if◌then◌else◌}
use Rattle.arrow_flatbuf.specs.Buffer.{buffer, buffer_size}
use Rattle.arrow_meta_reader.specs.declared.message.MetadataVersion.{MetadataVersion}
use Rattle.arrow_meta_reader.specs.declared.message.MetadataVersion.TheVariants as versions
use Rattle.arrow_meta_reader.specs.Means.{PlainMessage}
use Rattle.arrow_meta_writer.specs.Layouts.{message_node}

-- the bytes, padded so that after an eight-byte prefix they end at a multiple of 8
abbrev pub metadata : PlainMessage → List ℕ
metadata m = buffer (message_node m)

-- the number of bytes
abbrev pub metadata_size : PlainMessage → ℕ
metadata_size m = buffer_size (message_node m)

-- whether a version is the one that is written
abbrev pub is_written : MetadataVersion → Bool
is_written versions.V4 = false
is_written versions.V5 = true

-- a message of V5, with a body that the greatest limit accepts
abbrev pub is_sendable : PlainMessage → Bool
is_sendable m = is_written m.version && nat_le m.body_len (2 ^ 40)

-- the size of the metadata of a message that can be sent, none if it is over the greatest limit
abbrev pub size_of : PlainMessage → Option ℕ
size_of m = if is_sendable m && nat_le (metadata_size m) (2 ^ 30) then Some (metadata_size m) else None
