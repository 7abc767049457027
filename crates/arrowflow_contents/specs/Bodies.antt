-- The findings in a body: in a batch's nodes and buffers, and in its bytes (Message.fbs, table "RecordBatch").
use Rattle.std.specs.Prelude.{◌≡◌, ◌≤◌, ◌<◌, ◌+◌, ◌*◌, ◌/◌, ◌⊎◌, ◌==◌, if◌then◌else◌, ℕ, ℤ, pos, List, length, take, drop, slice_get, slice_range, Some, IsUtf8}
use Rattle.arrow_types.specs.declared.node.Buffer.{Buffer}
use Rattle.arrow_types.specs.declared.node.FieldNode.{FieldNode}
use Rattle.arrow_body_reader.specs.Held.{IsHeld}
use Rattle.arrow_flatbuf.specs.Place.{number_at}
use Rattle.arrow_meta_reader.specs.Means.{PlainBatch, PlainHeader}
use Rattle.arrow_stream_reader.specs.Frame.{number_at as size_at}
use Rattle.arrowflow_diagnosis.specs.Cut.{body_length}
use Rattle.arrowflow_diagnosis.specs.Rejection.{Situation}
use Rattle.arrowflow_diagnosis.specs.Rows.{Announces, batch_in}
use Rattle.arrowflow_contents.specs.declared.body_spot.BodySpot.{BodySpot}
use Rattle.arrowflow_contents.specs.declared.finding.Finding.{Finding}
use Rattle.arrowflow_contents.specs.declared.finding.Finding.TheVariants.{NodeMissing, BufferMissing, BufferOutside, RowCount, TooFew, Offsets, Unfit, Text, Index}
use Rattle.arrowflow_contents.specs.declared.finding.Need.{Need}
use Rattle.arrowflow_contents.specs.declared.finding.Need.TheVariants as needs

-- the number of bytes that this many slots need (Columnar Format, "Buffer Listing for Each Layout")
abbrev pub needed_bytes : Need → ℕ → ℕ
needed_bytes needs.Bits slots = (slots + 7) / 8
needed_bytes (needs.Bytes width) slots = slots * width
needed_bytes (needs.Offsets width) slots = (slots + 1) * width

-- The batch's node with this index has this many slots.
abbrev pub HasSlots : PlainBatch → ℕ → ℤ → Type 0
HasSlots batch node slots = (n : FieldNode) × (slice_get batch.nodes node ≡ Some n) × (n.length ≡ slots)

-- The batch's buffer with this index lies in the body, from this byte on. An empty buffer may have any offset.
pub record LiesIn (body : List ℕ) (batch : PlainBatch) (index start count : ℕ) : Type 0 where
  pub buffer : Buffer
  pub is : slice_get batch.buffers index ≡ Some buffer
  pub size : buffer.length ≡ pos count
  pub starts : 0 < count → buffer.offset ≡ pos start
  pub inside : start + count ≤ length body

-- The buffer with this index has these numbers for the slot and for the next one, both of the same width in bytes.
pub record HasPair (body : List ℕ) (batch : PlainBatch) (buffer slot : ℕ) (pair : ℕ × ℕ) : Type 0 where
  pub start : ℕ
  pub count : ℕ
  pub lies : LiesIn body batch buffer start count
  pub width : ℕ
  pub own : number_at width body (start + slot * width) ≡ Some pair.0
  pub next : number_at width body (start + slot * width + width) ≡ Some pair.1

-- the least number of this many bytes that is negative when read as signed
abbrev pub half_of : ℕ → ℕ
half_of width =
    if width == 1 then 128 else
    (if width == 2 then 32768 else
    (if width == 4 then 2147483648 else 9223372036854775808))

-- The buffer with this index has this number for the slot: negative, or not below the number of values.
pub record HasBadIndex (body : List ℕ) (batch : PlainBatch) (buffer slot index values : ℕ) : Type 0 where
  pub start : ℕ
  pub count : ℕ
  pub lies : LiesIn body batch buffer start count
  pub width : ℕ
  pub is : number_at width body (start + slot * width) ≡ Some index
  pub bad : (values ≤ index) ⊎ (half_of width ≤ index)

-- The body has bytes from one offset up to another, and they are not UTF-8.
pub record IsBadText (body : List ℕ) (start end : ℕ) : Type 0 where
  pub order : start ≤ end
  pub inside : end ≤ length body
  pub not_text : IsUtf8 (slice_range body start end) → ⊥

-- The batch's node with this index has a slot with this index.
abbrev pub HasSlot : PlainBatch → ℕ → ℕ → Type 0
HasSlot batch node slot = (slots : ℕ) × HasSlots batch node (pos slots) × (slot < slots)

-- The finding holds for the node with this index, in a batch whose body has these bytes.
abbrev pub FindingHolds : Finding → ℕ → PlainBatch → List ℕ → Type 0
FindingHolds (NodeMissing nodes) node batch body = (length batch.nodes ≡ nodes) × (nodes ≤ node)
FindingHolds (BufferMissing buffers) node batch body = length batch.buffers ≡ buffers
FindingHolds (BufferOutside buffer place size) node batch body =
    (slice_get batch.buffers buffer ≡ Some place) × (length body ≡ size) × (IsHeld body place → ⊥)
FindingHolds (RowCount slots rows) node batch body = HasSlots batch node slots × (batch.length ≡ rows) × (slots ≡ rows → ⊥)
FindingHolds (TooFew buffer bytes slots need) node batch body =
    HasSlots batch node (pos slots) × ((start : ℕ) × LiesIn body batch buffer start bytes) × (bytes < needed_bytes need slots)
FindingHolds (Offsets buffer slot start end top) node batch body =
    HasSlot batch node slot × HasPair body batch buffer slot (start, end) × ((end < start) ⊎ (top < end))
FindingHolds (Unfit slots) node batch body = HasSlots batch node slots
FindingHolds (Text buffer slot start end) node batch body =
    HasSlot batch node slot × IsBadText body start end
FindingHolds (Index buffer slot index values) node batch body = HasSlot batch node slot × HasBadIndex body batch buffer slot index values

-- The metadata of the message decode to this batch, and these are the bytes of its body.
pub record HasBody (s : Situation) (batch : PlainBatch) (body : List ℕ) : Type 0 where
  pub header : PlainHeader
  pub announced : Announces s header
  pub is : batch_in header ≡ Some batch
  pub size : body_length s.bytes ≡ Some (length body)
  pub bytes : body ≡ take (length body) (drop (8 + size_at s.bytes 4) s.bytes)

-- The statement of a body spot about the body of a message holds.
pub record SpotHolds (spot : BodySpot) (s : Situation) : Type 0 where
  pub batch : PlainBatch
  pub body : List ℕ
  pub of : HasBody s batch body
  pub finding : FindingHolds spot.finding spot.node batch body
