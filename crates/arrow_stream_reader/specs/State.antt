-- The state of a stream after the messages read so far, and what its messages give (Columnar Format, "IPC Streaming
-- Format").
use Rattle.std.specs.Prelude.{ℤ, List, [], Option, Some, None}
use Rattle.arrow_types.specs.Field.{FieldTree, none}
use Rattle.arrow_types.specs.Notes.{SchemaShape, unnoted}
use Rattle.arrow_data.specs.Batch.{Table}
use Rattle.arrow_data.specs.Column.{ValueList}

-- what the complete messages leave to those after them: the schema, and the dictionaries by increasing id
pub record StreamState : Type 0 where
  pub schema : Option SchemaShape
  pub dictionaries : List (ℤ × ValueList)

-- the state at the beginning of a stream
abbrev pub nothing_yet : StreamState
nothing_yet = record { schema = None; dictionaries = [] }

-- the schema of the stream's batches, without columns before its message came
abbrev pub schema_in : Option SchemaShape → SchemaShape
schema_in None = record { fields = none; pairs = []; notes = unnoted }
schema_in (Some s) = s

-- the columns of the stream's batches, none before its schema
abbrev pub fields_in : Option SchemaShape → FieldTree
fields_in None = none
fields_in (Some s) = s.fields

-- What a complete message or the end marker gives to the reader's caller. A batch gives its rows with every index
-- looked up in the dictionaries as they are at that message.
pub data Given : Type 0 where
  schema_given : Given
  dictionary_given : ℤ → Given
  batch_given : Table → Given
  ended : Given
