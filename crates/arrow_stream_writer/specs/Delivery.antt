-- What a reader has of everything that a writer sent.
use Rattle.std.specs.Prelude.{◌≡◌, ℕ, Bool, List, [], ◌++◌, map, Some}
use Rattle.arrow_data.specs.Batch.{Table}
use Rattle.arrow_stream_reader.specs.Front.{Entry, FrontOf, Snapshot}
use Rattle.arrow_stream_reader.specs.Tables.{tables_of}
use Rattle.arrow_stream_laws.specs.Rows.{rows_of}
use Rattle.arrow_stream_laws.specs.Writer.{WriterView, IsWriterAt}

-- These bytes give the rows of these batches, in their order, and leave what the view of the writer has: the schema
-- and the dictionaries.
pub record GivesAll (w : WriterView) (batches : List Table) (entries : List Entry) (snapshot : Snapshot) : Type 0 where
  pub rows : map rows_of (tables_of entries) ≡ map rows_of batches
  pub schema : snapshot.state.schema ≡ Some w.shape
  pub dictionaries : snapshot.state.dictionaries ≡ w.sent
  pub nothing_left : snapshot.rest ≡ []

-- The bytes that a sink with known contents accepted from a writer consist of complete messages that give all of its
-- batches; and any reading of these bytes into messages does.
pub record IsDelivered (w : WriterView) (batches : List Table) (sent : List ℕ) : Type 0 where
  pub entries : List Entry
  pub snapshot : Snapshot
  pub front : FrontOf w.limits sent entries snapshot
  pub gives : GivesAll w batches entries snapshot
  pub only : (others : List Entry) (other : Snapshot) → FrontOf w.limits sent others other → GivesAll w batches others other

-- The law `delivered_whole`: this holds of every writer that sent batch messages for some batches, closed or not.
abbrev pub DeliveredWhole : Type 0
DeliveredWhole =
    (w : WriterView) (closed : Bool) (parts : List (List ℕ)) (batches : List Table) (before now : List ℕ) →
    IsWriterAt w (Some before) closed parts batches → w.contents ≡ Some now →
    (sent : List ℕ) × (now ≡ before ++ sent) × IsDelivered w batches sent
