-- The batches that complete messages give (Columnar Format, "IPC Streaming Format").
use Rattle.std.specs.Prelude.{List, [], ◌∷◌, ◌++◌}
use Rattle.arrow_data.specs.Batch.{Table}
use Rattle.arrow_stream_reader.specs.Front.{Entry}
use Rattle.arrow_stream_reader.specs.State.{Given, schema_given, dictionary_given, batch_given, ended}

-- the batch that a complete message gives, if it gives one
abbrev pub table_in : Given → List Table
table_in schema_given = []
table_in (dictionary_given id) = []
table_in (batch_given b) = b ∷ []
table_in ended = []

-- the batches that these messages gave, in their order
abbrev pub tables_of : List Entry → List Table
tables_of [] = []
tables_of (e ∷ es) = table_in e.given ++ tables_of es
