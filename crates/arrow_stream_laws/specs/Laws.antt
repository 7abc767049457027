-- Laws of streams and of what a writer sends.
use Rattle.std.specs.Prelude.{◌≡◌, ℕ, ◌<◌, ◌≤◌, ◌%◌, ◌⊎◌, Bool, List, [], length, take, drop, map, is_some, true}
use Rattle.std.specs.List.{AllByRecursion}
use Rattle.arrow_types.specs.Limits.{LimitNumbers}
use Rattle.arrow_types.specs.Notes.{SchemaShape}
use Rattle.arrow_data.specs.Batch.{Table}
use Rattle.arrow_stream_reader.specs.declared.kind.Rejection.{Rejection}
use Rattle.arrow_stream_reader.specs.declared.reader.Verdict.{Verdict}
use Rattle.arrow_stream_reader.specs.declared.reader.Verdict.TheVariants.{Open, Done, Bad}
use Rattle.arrow_stream_reader.specs.Front.{Entry, Snapshot, FrontOf}
use Rattle.arrow_stream_reader.specs.State.{nothing_yet}
use Rattle.arrow_stream_laws.specs.Sizes.{Options}
use Rattle.arrow_stream_laws.specs.Plan.{lists_sent}
use Rattle.arrow_stream_laws.specs.Rows.{rows_of}
use Rattle.arrow_stream_reader.specs.Tables.{tables_of}
use Rattle.arrow_stream_laws.specs.Frames.{Frame, frames_bytes, left_by, lying, ending_by, last_end, IsStream}
use Rattle.arrow_stream_laws.specs.Text.{Text, Written, joined, whole_batches}

-- What a reader has of the first n bytes of a stream with these entries: those entries that end there, no error, and
-- remaining bytes that begin where the last of these entries ends.
pub record BeginsBy (limits : LimitNumbers) (b : List ℕ) (es : List Entry) (n : ℕ) : Type 0 where
  pub snapshot : Snapshot
  pub front : FrontOf limits (take n b) (ending_by n es) snapshot
  pub never_bad : (k : Rejection) → snapshot.verdict ≡ Bad k → ⊥
  pub place : snapshot.place ≡ last_end 0 (ending_by n es)

-- The frames of a prefix of a stream are the first frames of the stream and no others. (The complete messages of
-- bytes are unique: `one_front` of `arrow_stream_reader`.)
abbrev pub FramesOfABeginning : Type 0
FramesOfABeginning =
    (limits : LimitNumbers) (b : List ℕ) (es : List Entry) (e : Snapshot) (n : ℕ) → FrontOf limits b es e → n ≤ e.place → BeginsBy limits b es n

-- The bytes of a connection are a stream of the rows of its batches, and its last dictionaries are those that were
-- sent for these.
abbrev pub TextIsAStream : Type 0
TextIsAStream =
    (limits : LimitNumbers) (o : Options) (shape : SchemaShape) (finish : Bool) (parts : List (List ℕ)) (batches : List Table) (frames : List Frame) →
    Written limits o shape finish parts batches frames →
    IsStream limits (joined parts) shape (map rows_of batches) (lists_sent o.updates shape.fields [] batches)

-- What a reader has of the first n bytes of these parts: no error; the state after the frames that lie there
-- completely, and remaining bytes that begin where the last of them ends; the rows of exactly the batches whose
-- messages lie there completely. If an end marker lies there too, no bytes remain.
pub record Delivered (limits : LimitNumbers) (parts : List (List ℕ)) (batches : List Table) (frames : List Frame) (n : ℕ) : Type 0 where
  pub entries : List Entry
  pub verdict : Verdict
  pub front : FrontOf limits (take n (joined parts)) entries (record {
    state = left_by nothing_yet (lying n frames);
    place = length (frames_bytes (lying n frames));
    rest = drop (length (frames_bytes (lying n frames))) (take n (joined parts));
    verdict = verdict;
  })
  pub ends : (verdict ≡ Open) ⊎ (verdict ≡ Done)
  pub done : verdict ≡ Done → (drop (length (frames_bytes (lying n frames))) (take n (joined parts)) ≡ []) × (is_some (left_by nothing_yet (lying n frames)).schema ≡ true)
  pub rows : map rows_of (tables_of entries) ≡ take (whole_batches parts batches n) (map rows_of batches)

-- A prefix of the bytes of a connection is delivered as the rows of the batches that lie in it completely. (The
-- complete messages of bytes are unique: `one_front` of `arrow_stream_reader`.)
abbrev pub DeliveredBeginning : Type 0
DeliveredBeginning =
    (limits : LimitNumbers) (o : Options) (shape : SchemaShape) (finish : Bool) (parts : List (List ℕ)) (batches : List Table) (frames : List Frame) →
    Written limits o shape finish parts batches frames → (n : ℕ) → Delivered limits parts batches frames n

-- the number of bytes of each frame is a multiple of the alignment
abbrev pub AreAligned : ℕ → List Frame → Type 0
AreAligned align frames = AllByRecursion (λ (f : Frame). length f.bytes % align ≡ 0) frames

-- Each frame of a connection begins and ends at a multiple of the alignment (Columnar Format, "Buffer Alignment and
-- Padding", "Encapsulated message format"). The end marker has eight bytes.
abbrev pub FramesAreAligned : Type 0
FramesAreAligned =
    (limits : LimitNumbers) (o : Options) (shape : SchemaShape) (parts : List (List ℕ)) (batches : List Table) (frames : List Frame) → 0 < o.align →
    Text limits o shape parts batches frames → AreAligned o.align frames
