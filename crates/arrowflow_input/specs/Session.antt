-- What is received from a stream's bytes, whatever pieces they come in (Columnar Format, "IPC Streaming Format").
use Rattle.std.specs.Prelude.{◌≡◌, ℕ, ℤ, List, ◌++◌, Result, Ok, Err}
use Rattle.arrow_types.specs.Limits.{LimitNumbers}
use Rattle.arrow_data.specs.Batch.{Table}
use Rattle.arrow_data.specs.Column.{ValueList}
use Rattle.arrow_stream_reader.specs.declared.fault.Fault.{Fault as StreamFault}
use Rattle.arrow_stream_reader.specs.Front.{Entry, Snapshot, FrontOf}
use Rattle.arrow_stream_reader.specs.Stream.{ReaderView, IsReaderAt, ended_so}
use Rattle.arrow_stream_reader.specs.Tables.{tables_of}
use Rattle.arrowflow_input.specs.declared.session.Ending.{Ending}
use Rattle.arrowflow_input.specs.declared.session.Ending.TheVariants.{Clean, Fault}

-- the ending that a reader's answer reports
abbrev pub ending_by : Result (Unit {0}) StreamFault → Ending
ending_by (Ok done) = Clean
ending_by (Err fault) = Fault fault

-- how a stream ends that ends in this state
abbrev pub ending_of : Snapshot → Ending
ending_of e = ending_by (ended_so e)

-- What is received from these bytes: the batches of the complete messages at their start, the dictionaries that these
-- leave, and the ending after them.
pub record Receives (limits : LimitNumbers) (bytes : List ℕ) (handed : List Table) (dictionaries : List (ℤ × ValueList)) (ending : Ending) : Type 0 where
  pub entries : List Entry
  pub snapshot : Snapshot
  pub front : FrontOf limits bytes entries snapshot
  pub tables : handed ≡ tables_of entries
  pub dictionaries_are : dictionaries ≡ snapshot.state.dictionaries
  pub ended : ending ≡ ending_of snapshot

-- the reader has read these bytes
abbrev pub IsReaderAfter : List ℕ → ReaderView → Type 0
IsReaderAfter bytes r = (entries : List Entry) × IsReaderAt r bytes entries

-- the reader has read a prefix of these bytes
pub record IsReaderInside (bytes : List ℕ) (r : ReaderView) : Type 0 where
  pub taken : List ℕ
  pub rest : List ℕ
  pub whole : taken ++ rest ≡ bytes
  pub position : IsReaderAfter taken r
