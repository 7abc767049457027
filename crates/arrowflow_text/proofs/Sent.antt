-- Texts that are sent one after the other.
use Rattle.std.proofs.Common.{◌≡◌, ◌≤◌, ◌+◌, ℕ, List, [], ◌++◌, length, take, Option, Err, refl, sym, ap, ◌∙◌, subst, arith}
use Rattle.std.specs.Io.KnownBytes.{Appends}
use Rattle.std.proofs.KnownBytes.{Appends-nil, Appends-trans}
use Rattle.std.proofs.Math.Seq.{take-append-add}
use Rattle.std.proofs.lemmas.List.{length-append, take-append-le, take_all}
use Rattle.arrow_data.specs.Batch.{Table}
use Rattle.arrow_csv.specs.Layouts.{Form, form_by}
use Rattle.arrow_csv.specs.Named.{choice_by, chosen_schema}
use Rattle.arrow_csv.specs.Records.{AreBatchRows}
use Rattle.arrow_csv.proofs.Some.{rows_join, some_batch_rows}
use Rattle.arrow_sink.specs.Sinks.{AcceptsBeginning}
use Rattle.arrow_stream_reader.specs.State.{StreamState, Given, schema_given, dictionary_given, batch_given, ended}
use Rattle.arrow_types.specs.Notes.{SchemaShape}
use Rattle.arrowflow_text.specs.Chosen.{IsChosenAt, choice_of, chosen_given}
use Rattle.arrowflow_text.specs.Windows.{IsPartIn, counted, end_by, start_in}
use Rattle.arrowflow_text.specs.Lines.{message_line}
use Rattle.arrowflow_text.specs.Reports.{IsAdded}
use Rattle.arrowflow_input.specs.Endings.{SendsText}
use Rattle.arrowflow_text.specs.Shown.{IsTextIn, header_in}
use Rattle.arrowflow_text.specs.declared.report.ReportKind.{ReportKind}
use Rattle.arrowflow_text.specs.declared.report.ReportKind.TheVariants.{Messages, Rows}
use Rattle.arrowflow_input.specs.declared.tool_fault.ToolFault.{ToolFault}
use Rattle.arrowflow_text.specs.declared.window.Window.{Window}
use Rattle.arrowflow_input.specs.declared.tool_fault.ToolFault.TheVariants.{Input, Output, Stream, Refused, Memory}
use Rattle.arrowflow_input.proofs.Beginnings.{begun_after, begun_longer}

-- ---- that there are texts

-- records of some rows of a batch continue to those of more rows
pub rows_go_on : (form : Form) (number : ℕ) (batch : Table) (start mid end : ℕ) (text : List ℕ) → start ≤ mid → mid ≤ end → AreBatchRows form number batch start mid text → (rest : List ℕ) × AreBatchRows form number batch start end (text ++ rest)
rows_go_on form number batch start mid end text order within reported =
    let rest = some_batch_rows form number batch mid end in
    (rest.0, rows_join form number batch start mid end text rest.0 order within reported rest.1)

-- each message adds a text to the rows
pub some_in : (form : Form) (schema : Option SchemaShape) (number : ℕ) (given : Given) → (text : List ℕ) × IsTextIn form schema number given text
some_in form schema number schema_given = (header_in form schema, refl)
some_in form schema number (dictionary_given id) = ([], refl)
some_in form schema number (batch_given batch) = some_batch_rows form number batch 0 batch.rows
some_in form schema number ended = ([], refl)

-- so it does for its rows that lie in a window
pub some_part : (form : Form) (w : Window) (schema : Option SchemaShape) (number : ℕ) (given : Given) → (text : List ℕ) × IsPartIn form w schema number given text
some_part form w schema number schema_given = (header_in form schema, refl)
some_part form w schema number (dictionary_given id) = ([], refl)
some_part form w schema number (batch_given batch) = some_batch_rows form number batch (start_in w (counted w number batch.rows)) (end_by w.rows w.skip (counted w number batch.rows))
some_part form w schema number ended = ([], refl)

-- and to what is reported, be it rows or lines
pub some_added : (report : ReportKind) (schema : Option SchemaShape) (place number : ℕ) (given : Given) → IsChosenAt (choice_of report) schema given → (text : List ℕ) × IsAdded report schema place number given text
some_added Messages schema place number given has =
    let state : StreamState = record { schema = schema; dictionaries = [] } in
    (message_line place number state given, (state, refl, refl))
some_added (Rows layout) schema place number given has =
    let text = some_in (form_by layout) (chosen_schema (choice_by layout.columns) schema) number (chosen_given (choice_by layout.columns) given) in
    (text.0, (has, text.1))

-- ---- texts that were not sent completely

-- a text after another was not sent completely: the other one was sent, and some further text continues both
pub cut_after : (f : ToolFault) (a b c : Option (List ℕ)) (n m k : ℕ) (s t u : List ℕ) → Appends a b s → m ≡ n → SendsText b m t (Err f) c k → SendsText a n ((s ++ t) ++ u) (Err f) c k
cut_after (Input x) a b c n m k s t u h same sent = sent
cut_after (Refused what kind) a b c n m k s t u h same sent = sent
cut_after (Stream x) a b c n m k s t u h same sent = sent
cut_after Output a b c n m k s t u h same sent = (begun_longer a c (s ++ t) u (begun_after a b c s t h sent.0), sent.1 ∙ ap (λ j. j + 1) same)
cut_after Memory a b c n m k s t u h same sent = (begun_longer a c (s ++ t) u (begun_after a b c s t h sent.0), sent.1 ∙ same)
