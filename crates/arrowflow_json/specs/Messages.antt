-- The lines of a stream's messages as JSON, and what is written for a stream that is checked.
use Rattle.std.specs.Prelude.{◌≡◌, ℕ, ◌+◌, List, [], ◌∷◌, ◌++◌, length, Option, Result, codes}
use Rattle.std.specs.Fmt.{decimal, signed_decimal}
use Rattle.json.specs.Json.{Json, number, object, string}
use Rattle.arrow_types.specs.Field.{width}
use Rattle.arrow_types.specs.Limits.{LimitNumbers}
use Rattle.arrow_types.specs.Notes.{SchemaShape}
use Rattle.arrow_data.specs.Listed.{values_by}
use Rattle.arrow_json.specs.Lines.{line_of}
use Rattle.arrow_json.specs.Values.{members_of}
use Rattle.arrow_stream_reader.specs.declared.fault.Fault.{Fault}
use Rattle.arrow_stream_reader.specs.declared.reader.Verdict.{Verdict}
use Rattle.arrow_stream_reader.specs.declared.reader.Verdict.TheVariants.{Done, Bad, Open}
use Rattle.arrow_stream_reader.specs.Front.{Entry}
use Rattle.arrow_stream_reader.specs.Kind.{name_of}
use Rattle.arrow_stream_reader.specs.State.{StreamState, Given, fields_in, schema_given, dictionary_given, batch_given, ended}
use Rattle.arrow_stream_reader.specs.Tables.{table_in}
use Rattle.arrowflow_input.specs.declared.tool_fault.ToolFault.{ToolFault}
use Rattle.arrowflow_json.specs.Fields.{in_file}
use Rattle.arrowflow_json.specs.Forms.{Form, WritesInput}

-- a count
abbrev pub whole : ℕ → Json
whole n = number (decimal n)

-- an object about this offset, whose file may have a name
abbrev pub place_json : Option (List ℕ) → ℕ → List (List ℕ × Json) → Json
place_json file place members = object (members_of (in_file file ++ (codes "at", whole place) ∷ members))

-- the members of a message after its offset, if this many batches precede it and this is the state after it
abbrev pub message_members : ℕ → StreamState → Given → List (List ℕ × Json)
message_members before state schema_given =
    (codes "message", string (codes "schema")) ∷ (codes "columns", whole (width (fields_in state.schema))) ∷ []
message_members before state (dictionary_given id) =
    (codes "message", string (codes "dictionary")) ∷ (codes "id", number (signed_decimal id))
    ∷ (codes "values", whole (length (values_by state.dictionaries id))) ∷ []
message_members before state (batch_given batch) =
    (codes "message", string (codes "batch")) ∷ (codes "number", whole before) ∷ (codes "rows", whole batch.rows) ∷ []
message_members before state ended = (codes "message", string (codes "end marker")) ∷ []

-- a message that begins at this offset
abbrev pub message_json : Option (List ℕ) → ℕ → ℕ → StreamState → Given → Json
message_json file place before state given = place_json file place (message_members before state given)

-- the end, at this offset, of an input without an end marker
abbrev pub end_json : Option (List ℕ) → ℕ → Json
end_json file place = place_json file place ((codes "message", string (codes "end of input")) ∷ [])

-- a fault of a stream
abbrev pub fault_json : Option (List ℕ) → Fault → Json
fault_json file fault = place_json file fault.place ((codes "fault", string (name_of fault.kind)) ∷ [])

-- the line of an end
abbrev pub end_line : Option (List ℕ) → ℕ → List ℕ
end_line file place = line_of (end_json file place)

-- the line of a fault
abbrev pub fault_line : Option (List ℕ) → Fault → List ℕ
fault_line file fault = line_of (fault_json file fault)

-- the line of a message, with this schema after it, for some dictionaries after it
abbrev pub IsMessageLine : Option (List ℕ) → Option SchemaShape → ℕ → ℕ → Given → List ℕ → Type 0
IsMessageLine file schema place before given line =
    (state : StreamState) × (state.schema ≡ schema) × (line ≡ line_of (message_json file place before state given))

-- The lines of messages one after the other, the first of which begins at this offset, after this many batches: each
-- message begins where the one before it ends.
abbrev pub AreMessageLines : Option (List ℕ) → Option SchemaShape → ℕ → ℕ → List Entry → List ℕ → Type 0
AreMessageLines file schema place before [] text = text ≡ []
AreMessageLines file schema place before (x ∷ xs) text =
    (line : List ℕ) × (rest : List ℕ) × IsMessageLine file schema place before x.given line
    × AreMessageLines file schema x.end (before + length (table_in x.given)) xs rest × (text ≡ line ++ rest)

-- the last line of a stream that ends well at this offset: none after an end marker, which has its own line
abbrev pub IsLast : Option (List ℕ) → Verdict → ℕ → List ℕ → Type 0
IsLast file Done place text = text ≡ []
IsLast file Open place text = text ≡ end_line file place
IsLast file (Bad kind) place text = ⊥

-- A line for each message, and a last one for the end of the input or for a fault of the stream.
abbrev pub messages_form : Option (List ℕ) → Form
messages_form file = record {
  Whole = λ schema entries text. AreMessageLines file schema 0 0 entries text;
  Part = λ schema entries text. AreMessageLines file schema 0 0 entries text;
  Last = λ e text. IsLast file e.verdict e.place text;
  Faulty = λ fault text. text ≡ fault_line file fault;
}

-- the messages of an input's stream are checked: what is written, and how that ends
abbrev pub ChecksInput : Option (List ℕ) → LimitNumbers → Option (List ℕ) → Option (List ℕ) → Option (List ℕ) → ℕ → Result (Unit {0}) ToolFault → Option (List ℕ) → ℕ → Type 0
ChecksInput file = WritesInput (messages_form file)
