-- What is written of a stream if only some rows are asked for, and how that ends.
use Rattle.std.specs.Prelude.{◌≡◌, ℕ, ◌+◌, ◌-◌, ◌<◌, ◌⊎◌, min, nat_eq, Bool, true, if◌then◌else◌, List, [], ◌∷◌, ◌++◌, length, Option, None, Some, is_some, Result, Ok, Err}
use Rattle.std.specs.Io.KnownBytes.{Appends, Consumes}
use Rattle.arrow_types.specs.Limits.{LimitNumbers}
use Rattle.arrow_types.specs.Notes.{SchemaShape}
use Rattle.arrow_data.specs.Batch.{Table}
use Rattle.arrow_csv.specs.Layouts.{Form}
use Rattle.arrow_csv.specs.Named.{Choice, chosen_schema, chosen_tables}
use Rattle.arrow_csv.specs.Records.{AreBatchRows, header_record}
use Rattle.arrow_sink.specs.Sinks.{AcceptsBeginning}
use Rattle.arrow_stream_reader.specs.declared.reader.Verdict.TheVariants.{Open}
use Rattle.arrow_stream_reader.specs.Front.{Entry, Snapshot, FrontOf}
use Rattle.arrow_stream_reader.specs.State.{Given, schema_given, dictionary_given, batch_given, ended}
use Rattle.arrow_stream_reader.specs.Stream.{ReaderView, IsReaderAt}
use Rattle.arrow_stream_reader.specs.Tables.{tables_of}
use Rattle.arrowflow_text.specs.Chosen.{HaveChosen}
use Rattle.arrowflow_input.specs.Reads.{IsReadWhile}
use Rattle.arrowflow_input.specs.Endings.{EndsBadly, EndsWell, IsOpenAt}
use Rattle.arrowflow_text.specs.Shown.{header_in}
use Rattle.arrowflow_input.specs.declared.tool_fault.ToolFault.{ToolFault}
use Rattle.arrowflow_input.specs.declared.tool_fault.ToolFault.TheVariants.{Input, Output, Stream, Refused, Memory}
use Rattle.arrowflow_text.specs.declared.window.Window.{Window}

-- ---- rows that lie in a window

-- whether the rows of the batch with this number are meant: those of one batch, or of all
abbrev pub is_meant : Option ℕ → ℕ → Bool
is_meant None number = true
is_meant (Some batch) number = nat_eq batch number

-- how many rows count of the batch with this number and this many rows
abbrev pub counted : Window → ℕ → ℕ → ℕ
counted w number rows = if is_meant w.batch number then rows else 0

-- the index of the first row to be written, of this many rows that count
abbrev pub start_in : Window → ℕ → ℕ
start_in w rows = min w.skip rows

-- and the index past the last one
abbrev pub end_by : Option ℕ → ℕ → ℕ → ℕ
end_by None skip rows = rows
end_by (Some left) skip rows = min (skip + left) rows

-- how many rows are still to be written after this many
abbrev pub left_after : Option ℕ → ℕ → Option ℕ
left_after None shown = None
left_after (Some left) shown = Some (left - shown)

-- the window after this many rows that count
abbrev pub moved : Window → ℕ → Window
moved w rows = record { batch = w.batch; skip = w.skip - rows; rows = left_after w.rows (rows - w.skip) }

-- the window after the batch with this number and this many rows
abbrev pub after_batch : Window → ℕ → ℕ → Window
after_batch w number rows = moved w (counted w number rows)

-- the window after batches, the first of which has this number
abbrev pub window_after : Window → ℕ → List Table → Window
window_after w number [] = w
window_after w number (batch ∷ batches) = window_after (after_batch w number batch.rows) (number + 1) batches

-- only one batch is meant, and its number is less than this one
abbrev pub IsPast : Option ℕ → ℕ → Type 0
IsPast None number = ⊥
IsPast (Some batch) number = batch < number

-- after this many batches no further row is to be written
abbrev pub IsOver : Window → ℕ → Type 0
IsOver w number = (w.rows ≡ Some 0) ⊎ IsPast w.batch number

-- records of the rows in a window of the batch with this number
abbrev pub AreOwnRows : Form → Window → ℕ → Table → List ℕ → Type 0
AreOwnRows form w number batch text = AreBatchRows form number batch (start_in w (counted w number batch.rows)) (end_by w.rows w.skip (counted w number batch.rows)) text

-- records of the rows of batches that lie in a window; the first batch has this number
abbrev pub AreRowsIn : Form → Window → ℕ → List Table → List ℕ → Type 0
AreRowsIn form w number [] text = text ≡ []
AreRowsIn form w number (batch ∷ batches) text =
    (first : List ℕ) × (others : List ℕ) × AreOwnRows form w number batch first × AreRowsIn form (after_batch w number batch.rows) (number + 1) batches others × (text ≡ first ++ others)

-- records of a stream: those of its schema and of its rows that lie in a window, none without a schema
abbrev pub IsTextWithin : Form → Window → Option SchemaShape → List Table → List ℕ → Type 0
IsTextWithin form w None batches text = text ≡ []
IsTextWithin form w (Some shape) batches text = (records : List ℕ) × AreRowsIn form w 0 batches records × (text ≡ header_record form shape.fields ++ records)

-- the same with only the chosen columns
abbrev pub IsChosenWithin : Form → Choice → Window → Option SchemaShape → List Table → List ℕ → Type 0
IsChosenWithin form choice w schema batches text = IsTextWithin form w (chosen_schema choice schema) (chosen_tables choice batches) text

-- after these messages, one of which gave a schema, no further row is to be written
abbrev pub HaveAll : Window → Option SchemaShape → List Entry → Type 0
HaveAll w schema entries = (is_some schema ≡ true) × IsOver (window_after w 0 (tables_of entries)) (length (tables_of entries))

-- ---- what is written

-- the rows in the window of the complete messages at the start of these bytes were written
pub record AreWritten (form : Form) (choice : Choice) (w : Window) (limits : LimitNumbers) (bytes : List ℕ) (e : Snapshot) (before after : Option (List ℕ)) : Type 0 where
  pub entries : List Entry
  pub front : FrontOf limits bytes entries e
  pub has : HaveChosen choice e.state.schema
  pub text : List ℕ
  pub is : IsChosenWithin form choice w e.state.schema (tables_of entries) text
  pub wrote : Appends before after text

-- the same for bytes after which more rows are to be written
pub record IsShortOf (form : Form) (choice : Choice) (w : Window) (limits : LimitNumbers) (bytes : List ℕ) (e : Snapshot) (before after : Option (List ℕ)) : Type 0 where
  pub written : AreWritten form choice w limits bytes e before after
  pub short : HaveAll w e.state.schema written.entries → ⊥

-- the same for a prefix of these bytes after which no further row is to be written
pub record IsEnoughOf (form : Form) (choice : Choice) (w : Window) (limits : LimitNumbers) (bytes : List ℕ) (before after : Option (List ℕ)) : Type 0 where
  pub taken : List ℕ
  pub rest : List ℕ
  pub whole : taken ++ rest ≡ bytes
  pub snapshot : Snapshot
  pub written : AreWritten form choice w limits taken snapshot before after
  pub there : HaveAll w snapshot.state.schema written.entries

-- a prefix was written of the rows in the window of the complete messages at the start of a prefix of these bytes
pub record AreBegun (form : Form) (choice : Choice) (w : Window) (limits : LimitNumbers) (bytes : List ℕ) (before after : Option (List ℕ)) : Type 0 where
  pub taken : List ℕ
  pub rest : List ℕ
  pub whole : taken ++ rest ≡ bytes
  pub snapshot : Snapshot
  pub entries : List Entry
  pub front : FrontOf limits taken entries snapshot
  pub has : HaveChosen choice snapshot.state.schema
  pub text : List ℕ
  pub is : IsChosenWithin form choice w snapshot.state.schema (tables_of entries) text
  pub wrote : AcceptsBeginning before after text

-- What was written of the rows in a window, and why the call ended, when these bytes were read of an input of which
-- this is left. The call ends well once no further row is to be written, whatever comes then, and if the stream ends
-- well before.
abbrev pub ShowsWindow : Form → Choice → Window → LimitNumbers → List ℕ → Option (List ℕ) → Option (List ℕ) → ℕ → Result (Unit {0}) ToolFault → Option (List ℕ) → ℕ → Type 0
ShowsWindow form choice w limits bytes left before failed (Ok done) after failed' =
    (IsEnoughOf form choice w limits bytes before after ⊎ ((e : Snapshot) × IsShortOf form choice w limits bytes e before after × EndsWell left e)) × (failed' ≡ failed)
ShowsWindow form choice w limits bytes left before failed (Err (Stream fault)) after failed' =
    ((e : Snapshot) × IsShortOf form choice w limits bytes e before after × EndsBadly left e fault) × (failed' ≡ failed)
ShowsWindow form choice w limits bytes left before failed (Err (Input number)) after failed' =
    (number ≡ 0) × ((e : Snapshot) × (e.verdict ≡ Open) × IsShortOf form choice w limits bytes e before after) × (failed' ≡ failed)
ShowsWindow form choice w limits bytes left before failed (Err Output) after failed' = AreBegun form choice w limits bytes before after × (failed' ≡ failed + 1)
ShowsWindow form choice w limits bytes left before failed (Err Memory) after failed' = AreBegun form choice w limits bytes before after × (failed' ≡ failed)
ShowsWindow form choice w limits bytes left before failed (Err (Refused what kind)) after failed' = ⊥

-- at these bytes the stream goes on, and more rows are to be written
pub record IsShortAt (w : Window) (limits : LimitNumbers) (bytes : List ℕ) : Type 0 where
  pub open_at : IsOpenAt limits bytes
  pub short : HaveAll w open_at.snapshot.state.schema open_at.entries → ⊥

-- The same for an input that had these bytes before the call and has these after it. No piece was read after the one
-- with which no further row is to be written, the stream is rejected or it ends with its marker.
abbrev pub ShowsWindowOf : Form → Choice → Window → LimitNumbers → Option (List ℕ) → Option (List ℕ) → Option (List ℕ) → ℕ → Result (Unit {0}) ToolFault → Option (List ℕ) → ℕ → Type 0
ShowsWindowOf form choice w limits had left before failed answer after failed' =
    (bytes : List ℕ) × Consumes had left bytes × IsReadWhile (IsShortAt w limits) bytes
    × ShowsWindow form choice w limits bytes left before failed answer after failed'

-- ---- a stream reported message by message

-- what a message adds to the text, given the window before it, after this number of batches
abbrev pub IsPartIn : Form → Window → Option SchemaShape → ℕ → Given → List ℕ → Type 0
IsPartIn form w schema number schema_given text = text ≡ header_in form schema
IsPartIn form w schema number (dictionary_given id) text = text ≡ []
IsPartIn form w schema number (batch_given batch) text = AreOwnRows form w number batch text
IsPartIn form w schema number ended text = text ≡ []

-- The window after these messages; more rows are to be written, or no message came.
abbrev pub AreLeft : Window → Option Window → List Entry → Type 0
AreLeft w None entries = ⊥
AreLeft w (Some v) entries = (v ≡ window_after w 0 (tables_of entries)) × (IsOver v (length (tables_of entries)) → entries ≡ [])

-- the rows in the window of the bytes t were written, and more are to be written
pub record IsPartReported (form : Form) (choice : Choice) (w : Window) (first held : Option (List ℕ)) (number : ℕ) (left : Option Window) (r : ReaderView) (t : List ℕ) (entries : List Entry) : Type 0 where
  pub position : IsReaderAt r t entries
  pub has : HaveChosen choice r.at.state.schema
  pub text : List ℕ
  pub is : IsChosenWithin form choice w r.at.state.schema (tables_of entries) text
  pub wrote : Appends first held text
  pub counted : number ≡ length (tables_of entries)
  pub left_are : AreLeft w left entries

-- The reader has read a prefix of the bytes after t, and the rows in the window of all messages were written.
pub record IsEnoughReported (form : Form) (choice : Choice) (w : Window) (first held : Option (List ℕ)) (r : ReaderView) (t bytes : List ℕ) : Type 0 where
  pub taken : List ℕ
  pub rest : List ℕ
  pub whole : taken ++ rest ≡ bytes
  pub entries : List Entry
  pub position : IsReaderAt r (t ++ taken) entries
  pub there : HaveAll w r.at.state.schema entries
  pub has : HaveChosen choice r.at.state.schema
  pub text : List ℕ
  pub is : IsChosenWithin form choice w r.at.state.schema (tables_of entries) text
  pub wrote : Appends first held text

-- the same, but only a prefix of these rows was written
pub record IsPartCut (form : Form) (choice : Choice) (w : Window) (first held : Option (List ℕ)) (r : ReaderView) (t bytes : List ℕ) : Type 0 where
  pub taken : List ℕ
  pub rest : List ℕ
  pub whole : taken ++ rest ≡ bytes
  pub entries : List Entry
  pub position : IsReaderAt r (t ++ taken) entries
  pub has : HaveChosen choice r.at.state.schema
  pub text : List ℕ
  pub is : IsChosenWithin form choice w r.at.state.schema (tables_of entries) text
  pub wrote : AcceptsBeginning first held text
