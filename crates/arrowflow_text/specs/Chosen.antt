-- The rows of a stream with a choice of its columns.
use Rattle.std.specs.Prelude.{◌≡◌, ℕ, List, Option, None, Some, ⊤}
use Rattle.arrow_types.specs.Notes.{SchemaShape}
use Rattle.arrow_data.specs.Batch.{Table}
use Rattle.arrow_csv.specs.Layouts.{Form, form_by, usual_form}
use Rattle.arrow_csv.specs.Named.{Choice, HasChosen, choice_by, chosen, chosen_schema, chosen_tables, lacking}
use Rattle.arrow_csv.specs.Records.{IsStreamText}
use Rattle.arrow_stream_reader.specs.State.{Given, schema_given, dictionary_given, batch_given, ended}
use Rattle.arrowflow_text.specs.declared.report.ReportKind.{ReportKind}
use Rattle.arrowflow_text.specs.declared.report.ReportKind.TheVariants.{Messages, Rows}

-- the columns that are reported
abbrev pub choice_of : ReportKind → Choice
choice_of Messages = None
choice_of (Rows layout) = choice_by layout.columns

-- and the form of their records
abbrev pub form_of : ReportKind → Form
form_of Messages = usual_form
form_of (Rows layout) = form_by layout

-- rows are reported, not messages
abbrev pub AreRows : ReportKind → Type 0
AreRows Messages = ⊥
AreRows (Rows layout) = ⊤

-- the schema of a stream, once it came, has all columns that are chosen
abbrev pub HaveChosen : Choice → Option SchemaShape → Type 0
HaveChosen None schema = ⊤
HaveChosen (Some names) None = ⊤
HaveChosen (Some names) (Some shape) = HasChosen (Some names) shape

-- it has them if this message gave it
abbrev pub IsChosenAt : Choice → Option SchemaShape → Given → Type 0
IsChosenAt choice schema schema_given = HaveChosen choice schema
IsChosenAt choice schema (dictionary_given id) = ⊤
IsChosenAt choice schema (batch_given batch) = ⊤
IsChosenAt choice schema ended = ⊤

-- it lacks the column at this index of the choice, and none before
abbrev pub LacksColumn : Choice → Option SchemaShape → ℕ → Type 0
LacksColumn None schema place = ⊥
LacksColumn (Some names) None place = ⊥
LacksColumn (Some names) (Some shape) place = lacking names shape.fields ≡ Some place

-- this message gave such a schema
abbrev pub LacksAt : Choice → Option SchemaShape → Given → ℕ → Type 0
LacksAt choice schema schema_given place = LacksColumn choice schema place
LacksAt choice schema (dictionary_given id) place = ⊥
LacksAt choice schema (batch_given batch) place = ⊥
LacksAt choice schema ended place = ⊥

-- what a message gave, with only the chosen columns of a batch
abbrev pub chosen_given : Choice → Given → Given
chosen_given None given = given
chosen_given (Some names) schema_given = schema_given
chosen_given (Some names) (dictionary_given id) = dictionary_given id
chosen_given (Some names) (batch_given batch) = batch_given (chosen (Some names) batch)
chosen_given (Some names) ended = ended

-- records of a stream with only the chosen columns
abbrev pub IsChosenText : Form → Choice → Option SchemaShape → List Table → List ℕ → Type 0
IsChosenText form choice schema batches text = IsStreamText form (chosen_schema choice schema) (chosen_tables choice batches) text
