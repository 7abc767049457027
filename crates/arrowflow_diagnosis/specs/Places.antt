-- The numbers in the tables of a message's metadata, and their offsets (FlatBuffers internals, "Tables").
use Rattle.std.specs.Prelude.{ℕ, ◌+◌, ◌*◌, List, [], ◌∷◌, take, drop, Option, None, Some, nat_lt, if◌then◌else◌}
use Rattle.arrow_flatbuf.specs.Place.{◌>>=◌, number_at, past}
use Rattle.arrow_flatbuf.specs.Table.{TableAt, field_place, table_at}
use Rattle.arrow_flatbuf.specs.Vector.{VectorAt, vector_at}
use Rattle.arrow_meta_tree.specs.Slots as slots
use Rattle.arrow_stream_reader.specs.Frame.{number_at as size_at}

-- the metadata of a message, whose size is given in its prefix (Columnar Format, "Encapsulated message format")
abbrev pub metadata_of : List ℕ → List ℕ
metadata_of message = take (size_at message 4) (drop 8 message)

-- the number at an offset, or the default if there is no offset
abbrev pub number_or : ℕ → ℕ → List ℕ → Option ℕ → Option ℕ
number_or width default bytes None = Some default
number_or width default bytes (Some place) = number_at width bytes place

-- the number of this many bytes in field i, the default if the field is absent, none if its bytes are not all there
abbrev pub field_number : ℕ → ℕ → TableAt → ℕ → Option ℕ
field_number width default t i = number_or width default t.bytes (field_place t i)

-- the table of a message (Message.fbs, table "Message")
abbrev pub message_table : List ℕ → Option TableAt
message_table message = past table_at (metadata_of message) 0

-- the table that field i refers to
abbrev pub field_table : TableAt → ℕ → Option TableAt
field_table t i = do
  place ← field_place t i
  past table_at t.bytes place

-- the table that this element of a vector of offsets refers to
abbrev pub element_at : VectorAt → ℕ → Option TableAt
element_at v k = if nat_lt k v.count then past table_at v.bytes (v.place + k * 4) else None

-- the table that element k of the vector in field i refers to
abbrev pub element : TableAt → ℕ → ℕ → Option TableAt
element t i k = do
  place ← field_place t i
  vector ← past (vector_at 4) t.bytes place
  element_at vector k

-- the number of elements of the vector of offsets in field i
abbrev pub element_count : TableAt → ℕ → Option ℕ
element_count t i = do
  place ← field_place t i
  vector ← past (vector_at 4) t.bytes place
  Some vector.count

-- the descendant of a field to which these child indices lead (Schema.fbs, table "Field", field "children")
abbrev pub below : TableAt → List ℕ → Option TableAt
below field [] = Some field
below field (k ∷ ks) = do
  child ← element field slots.field_children k
  below child ks

-- the field of a schema to which a column index and then child indices lead (Schema.fbs, table "Schema", field
-- "fields")
abbrev pub field_at : TableAt → List ℕ → Option TableAt
field_at schema [] = None
field_at schema (k ∷ ks) = do
  column ← element schema slots.schema_fields k
  below column ks
