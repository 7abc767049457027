-- The batches of a stream, kept in a list.
use Rattle.std.specs.Prelude.{◌≡◌, ℕ, List, Option, Result, Ok, Err}
use Rattle.arrow_data.specs.Batch.{Table}
use Rattle.arrow_stream_reader.specs.Front.{Entry}
use Rattle.arrow_stream_reader.specs.Stream.{ReaderView, IsReaderAt}
use Rattle.arrow_stream_reader.specs.Tables.{tables_of}
use Rattle.arrowflow_input.specs.Endings.{EndsWell}
use Rattle.arrowflow_input.specs.Session.{IsReaderInside}
use Rattle.arrowflow_input.specs.declared.tool_fault.ToolFault.{ToolFault}
use Rattle.arrowflow_input.specs.declared.tool_fault.ToolFault.TheVariants.{Memory}

-- The reader has read these bytes, whose batches are these, and their stream ended well.
pub record AreAllOf (batches : List Table) (r : ReaderView) (bytes : List ℕ) (left : Option (List ℕ)) : Type 0 where
  pub entries : List Entry
  pub position : IsReaderAt r bytes entries
  pub well : EndsWell left r.at
  pub are : batches ≡ tables_of entries

-- what the answer says: they are all, or an allocation failed for more
abbrev pub HasKept : List Table → Result (Unit {0}) ToolFault → ReaderView → List ℕ → Option (List ℕ) → Type 0
HasKept batches (Ok done) r bytes left = AreAllOf batches r bytes left
HasKept batches (Err fault) r bytes left = (fault ≡ Memory) × IsReaderInside bytes r
