-- Frames one after another, with what each gives and leaves (Columnar Format, "Encapsulated message format", "IPC Streaming
-- Format").
use Rattle.std.specs.Prelude.{◌≡◌, ℕ, ℤ, ◌-◌, ◌<◌, ◌⊎◌, nat_lt, true, if◌then◌else◌, List, [], ◌∷◌, ◌++◌, length, map, replicate, Some}
use Rattle.arrow_bits.specs.Numbers.{number_bytes}
use Rattle.arrow_types.specs.Limits.{LimitNumbers}
use Rattle.arrow_types.specs.Notes.{SchemaShape}
use Rattle.arrow_data.specs.Column.{ValueList}
use Rattle.arrow_meta_reader.specs.declared.message.MetadataVersion.TheVariants as versions
use Rattle.arrow_meta_reader.specs.Judges.{MetadataMeans}
use Rattle.arrow_meta_reader.specs.Means.{PlainHeader, PlainMessage}
use Rattle.arrow_meta_writer.specs.Metadata.{metadata}
use Rattle.arrow_stream_reader.specs.declared.reader.Verdict.TheVariants.{Open, Done}
use Rattle.arrow_stream_reader.specs.Frame.{has_continuation, number_at}
use Rattle.arrow_stream_reader.specs.Front.{Entry, Snapshot, FrontOf}
use Rattle.arrow_stream_reader.specs.State.{StreamState, Given}
use Rattle.arrow_stream_reader.specs.Tables.{tables_of}
use Rattle.arrow_stream_laws.specs.Rows.{Rows, rows_of}

-- A frame, or the end marker: its bytes, what it gives, and the state after it.
pub record Frame : Type 0 where
  pub bytes : List ℕ
  pub gives : Given
  pub leaves : StreamState

-- the bytes of frames, one after another
abbrev pub frames_bytes : List Frame → List ℕ
frames_bytes [] = []
frames_bytes (f ∷ fs) = f.bytes ++ frames_bytes fs

-- the state after them
abbrev pub left_by : StreamState → List Frame → StreamState
left_by s [] = s
left_by s (f ∷ fs) = left_by f.leaves fs

-- the first frames, as long as they lie completely in the first n bytes
abbrev pub lying : ℕ → List Frame → List Frame
lying n [] = []
lying n (f ∷ fs) = if nat_lt n (length f.bytes) then [] else f ∷ lying (n - length f.bytes) fs

-- the first entries, as long as they end at offset n or before
abbrev pub ending_by : ℕ → List Entry → List Entry
ending_by n [] = []
ending_by n (e ∷ es) = if nat_lt n e.end then [] else e ∷ ending_by n es

-- where the last of the entries ends, or p if there are none
abbrev pub last_end : ℕ → List Entry → ℕ
last_end p [] = p
last_end p (e ∷ es) = last_end e.end es

-- the eight bytes before n bytes of metadata: the continuation, then the number n
abbrev pub prefix_bytes : ℕ → List ℕ
prefix_bytes n = 255 ∷ 255 ∷ 255 ∷ 255 ∷ number_bytes 4 n

-- the metadata of the message, and zero bytes up to this size
abbrev pub padded : PlainMessage → ℕ → List ℕ
padded m size = metadata m ++ replicate (size - length (metadata m)) 0

-- the frame of the message with this body, whose metadata take `size` bytes
abbrev pub framed : PlainMessage → ℕ → List ℕ → List ℕ
framed m size body = prefix_bytes size ++ padded m size ++ body

-- the message of version V5 with this content and this body
abbrev pub message_of : PlainHeader → List ℕ → PlainMessage
message_of content body = record { version = versions.V5; header = content; body_len = length body }

-- b is the frame of this content and this body: the continuation and the size of the metadata, which is not 0, in
-- eight bytes; the metadata, which decode to a message of version V5 with the content and the length of the body; the
-- body (Columnar Format, "Encapsulated message format"; Schema.fbs, enum "MetadataVersion"). Of all metadata that
-- decode to this message they are those that the function `metadata` gives, followed by zero bytes.
pub record IsFrameOf (limits : LimitNumbers) (size : ℕ) (content : PlainHeader) (body b : List ℕ) : Type 0 where
  pub prefix : List ℕ
  pub metadata : List ℕ
  pub eight : length prefix ≡ 8
  pub continued : has_continuation prefix ≡ true
  pub number : number_at prefix 4 ≡ size
  pub sized : length metadata ≡ size
  pub some : 0 < size
  pub means : MetadataMeans limits metadata (message_of content body)
  pub bytes : b ≡ prefix ++ metadata ++ body
  pub one : b ≡ framed (message_of content body) size body

-- b is the end marker: the continuation and the size 0 (Columnar Format, "IPC Streaming Format")
pub record IsMarker (b : List ℕ) : Type 0 where
  pub eight : length b ≡ 8
  pub continued : has_continuation b ≡ true
  pub number : number_at b 4 ≡ 0
  pub one : b ≡ prefix_bytes 0

-- b is a stream: complete messages, perhaps closed by the end marker, and nothing after them; they set the schema,
-- give these rows in their order and leave these dictionaries (Columnar Format, "IPC Streaming Format").
pub record IsStream (limits : LimitNumbers) (b : List ℕ) (shape : SchemaShape) (given : List Rows) (last : List (ℤ × ValueList)) : Type 0 where
  pub entries : List Entry
  pub snapshot : Snapshot
  pub front : FrontOf limits b entries snapshot
  pub ends : (snapshot.verdict ≡ Open) ⊎ (snapshot.verdict ≡ Done)
  pub nothing_left : snapshot.rest ≡ []
  pub place : snapshot.place ≡ length b
  pub schema : snapshot.state.schema ≡ Some shape
  pub rows : map rows_of (tables_of entries) ≡ given
  pub dictionaries : snapshot.state.dictionaries ≡ last
