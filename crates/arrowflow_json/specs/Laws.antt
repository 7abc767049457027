-- Properties of the lines of columns and of messages.
use Rattle.std.specs.Prelude.{◌≡◌, ◌<◌, ◌≤◌, ◌^◌, ℕ, length, List, Option, None, Some, FitsSigned, ⊤}
use Rattle.std.specs.Int.{w64}
use Rattle.std.specs.List.{AllByRecursion}
use Rattle.json.specs.Json.{Json, document}
use Rattle.arrow_types.specs.Field.{FieldTree, none, more, levels, width}
use Rattle.arrow_types.specs.Notes.{Notes}
use Rattle.arrow_types.specs.declared.field.Encoding.{Encoding}
use Rattle.arrow_data.specs.Listed.{values_by}
use Rattle.arrow_json.specs.Lines.{json_text}
use Rattle.arrow_stream_reader.specs.declared.fault.Fault.{Fault}
use Rattle.arrow_stream_reader.specs.State.{StreamState, Given, fields_in, schema_given, dictionary_given, batch_given, ended}
use Rattle.arrowflow_json.specs.Fields.{fields_json}
use Rattle.arrowflow_json.specs.Messages.{end_json, fault_json, message_json}

-- the text of a JSON value is a JSON text, and reads back as the value (RFC 8259, section 2)
abbrev pub ReadsBack : Json → Type 0
ReadsBack json = document (json_text json) ≡ Some json

-- the id of a dictionary is a 64-bit number
abbrev pub IsId : Option Encoding → Type 0
IsId None = ⊤
IsId (Some e) = FitsSigned w64 e.id

-- so are the ids of fields, on all levels
abbrev pub HaveIds : FieldTree → Type 0
HaveIds none = ⊤
HaveIds (more head children rest) = IsId head.encoding × HaveIds children × HaveIds rest

-- A law: the text of each column reads back, in a schema of at most 32 levels.
abbrev pub ColumnsReadBack : Type 0
ColumnsReadBack = (file : Option (List ℕ)) (fields : FieldTree) (notes : Notes) → levels fields ≤ 32 → HaveIds fields → AllByRecursion ReadsBack (fields_json file fields notes)

-- the numbers of a message have 64 bits
abbrev pub HasNumbersOf : ℕ → StreamState → Given → Type 0
HasNumbersOf before state schema_given = width (fields_in state.schema) < 2 ^ 64
HasNumbersOf before state (dictionary_given id) = FitsSigned w64 id × (length (values_by state.dictionaries id) < 2 ^ 64)
HasNumbersOf before state (batch_given batch) = (before < 2 ^ 64) × (batch.rows < 2 ^ 64)
HasNumbersOf before state ended = ⊤

-- A law: the text of a message reads back.
abbrev pub MessageReadsBack : Type 0
MessageReadsBack = (file : Option (List ℕ)) (place before : ℕ) (state : StreamState) (given : Given) → place < 2 ^ 64 → HasNumbersOf before state given → ReadsBack (message_json file place before state given)

-- A law: the text of the end of an input reads back.
abbrev pub EndReadsBack : Type 0
EndReadsBack = (file : Option (List ℕ)) (place : ℕ) → place < 2 ^ 64 → ReadsBack (end_json file place)

-- A law: the text of a fault reads back.
abbrev pub FaultReadsBack : Type 0
FaultReadsBack = (file : Option (List ℕ)) (fault : Fault) → fault.place < 2 ^ 64 → ReadsBack (fault_json file fault)
