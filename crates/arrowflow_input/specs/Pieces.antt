-- What comes of the pieces that a reader is given, and of a read of an input.
use Rattle.std.specs.Prelude.{◌≡◌, ◌<◌, ◌≤◌, ◌⊎◌, List, [], ◌++◌, ℕ, length, take, Option}
use Rattle.std.specs.Io.KnownBytes.{Consumes, IsAtEnd, Keeps}
use Rattle.arrow_stream_reader.specs.BodyRead.{ReadsBody}
use Rattle.arrowflow_input.specs.declared.pieces.Piece.{Piece}
use Rattle.arrowflow_input.specs.declared.pieces.Piece.TheVariants.{InBuffer, InReader, End}
use Rattle.arrowflow_input.specs.declared.tool_fault.ToolFault.{ToolFault}
use Rattle.arrowflow_input.specs.declared.tool_fault.ToolFault.TheVariants.{Input, Memory}
use Rattle.arrow_data.specs.Batch.{Table}
use Rattle.arrow_stream_reader.specs.Front.{Entry}
use Rattle.arrow_stream_reader.specs.Stream.{ReaderView, IsReaderAt}
use Rattle.arrow_stream_reader.specs.Tables.{tables_of}
use Rattle.arrowflow_input.specs.Session.{IsReaderInside}

-- the reader has read these bytes and returned their batches
pub record HandsOut (bytes : List ℕ) (handed : List Table) (new : ReaderView) : Type 0 where
  pub entries : List Entry
  pub position : IsReaderAt new bytes entries
  pub tables : handed ≡ tables_of entries

-- one more piece was given after all bytes whose batches were returned
abbrev pub Feeds : ReaderView → List Table → List ℕ → ReaderView → List Table → Type 0
Feeds old handed piece new handed' = (t : List ℕ) → HandsOut t handed old → HandsOut (t ++ piece) handed' new

-- a prefix of the piece was given
abbrev pub FeedsInside : ReaderView → List Table → List ℕ → ReaderView → Type 0
FeedsInside old handed piece new = (t : List ℕ) → HandsOut t handed old → IsReaderInside (t ++ piece) new

-- what one read gave: bytes at the start of the buffer, bytes of a body that the reader has taken, or the input's end
abbrev pub Reads : ReaderView → Option (List ℕ) → Option (List ℕ) → List ℕ → ReaderView → Piece → Type 0
Reads old had left room new (InBuffer n) = (new ≡ old) × (0 < n) × (n ≤ length room) × Consumes had left (take n room)
Reads old had left room new InReader = (n : ℕ) × (0 < n) × ReadsBody old had left n new
Reads old had left room new End = (new ≡ old) × Consumes had left [] × IsAtEnd left

-- nothing was read and nothing has changed: the read failed, or an allocation
pub record FailsToRead (old : ReaderView) (had left : Option (List ℕ)) (new : ReaderView) (fault : ToolFault) : Type 0 where
  pub same : new ≡ old
  pub kept : Keeps had left
  pub why : (fault ≡ Input 0) ⊎ (fault ≡ Memory)
