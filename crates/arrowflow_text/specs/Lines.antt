-- The lines that report a stream's messages and the end of its input. (This project's own.)
use Rattle.std.specs.Prelude.{◌≡◌, ℕ, ◌+◌, List, [], ◌∷◌, ◌++◌, length, Option, codes}
use Rattle.std.specs.Fmt.{decimal, signed_decimal}
use Rattle.arrow_types.specs.Field.{width}
use Rattle.arrow_types.specs.Notes.{SchemaShape}
use Rattle.arrow_data.specs.Listed.{values_by}
use Rattle.arrow_stream_reader.specs.Front.{Entry}
use Rattle.arrow_stream_reader.specs.State.{StreamState, Given, fields_in, schema_given, dictionary_given, batch_given, ended}
use Rattle.arrow_stream_reader.specs.Tables.{table_in}

-- the text after the offset in the line of a message that comes after this number of batches and leaves this state
abbrev pub message_text : ℕ → StreamState → Given → List ℕ
message_text number state schema_given = codes ": schema, " ++ decimal (width (fields_in state.schema)) ++ codes " columns\n"
message_text number state (dictionary_given id) = codes ": dictionary " ++ signed_decimal id ++ codes ", now " ++ decimal (length (values_by state.dictionaries id)) ++ codes " values\n"
message_text number state (batch_given batch) = codes ": batch " ++ decimal number ++ codes ", " ++ decimal batch.rows ++ codes " rows\n"
message_text number state ended = codes ": end marker\n"

-- the line of a message that begins at this offset
abbrev pub message_line : ℕ → ℕ → StreamState → Given → List ℕ
message_line place number state given = codes "at " ++ decimal place ++ message_text number state given

-- the line after the last message of an input that ends without an end marker, at this offset
abbrev pub end_line : ℕ → List ℕ
end_line place = codes "at " ++ decimal place ++ codes ": end of input\n"

-- the line of a message after this schema, for some dictionaries that it left
abbrev pub IsLine : Option SchemaShape → ℕ → ℕ → Given → List ℕ → Type 0
IsLine schema place number given line = (state : StreamState) × (state.schema ≡ schema) × (line ≡ message_line place number state given)

-- The lines of messages one after the other, the first of which begins at this offset, after this number of batches:
-- each begins where the one before it ends.
abbrev pub AreLines : Option SchemaShape → ℕ → ℕ → List Entry → List ℕ → Type 0
AreLines schema place number [] text = text ≡ []
AreLines schema place number (x ∷ xs) text =
    (line : List ℕ) × (rest : List ℕ) × IsLine schema place number x.given line
    × AreLines schema x.end (number + length (table_in x.given)) xs rest × (text ≡ line ++ rest)
