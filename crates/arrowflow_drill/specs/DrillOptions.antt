-- The requests for the connections of streams.
use Rattle.std.specs.Prelude.{◌≡◌, true, List, Option, Some}
use Rattle.arrow_types.specs.Notes.{SchemaShape}
use Rattle.arrow_data.specs.Batch.{Table}
use Rattle.arrowflow_session.specs.declared.connection.Connection.{Connection}
use Rattle.arrow_stream_writer.specs.Shown.{options_view}
use Rattle.arrowflow_drill.specs.Reading.{Asks}
use Rattle.arrowflow_drill.specs.declared.reading.DrillOptions.{DrillOptions}

-- what these terms request
abbrev pub asks_of : DrillOptions → Asks
asks_of terms = record { limits = terms.limits; options = options_view terms.options; deliver = terms.deliver }

-- A connection was made, by these terms, of a schema and batches.
pub record IsMadeOf (terms : DrillOptions) (schema : Option SchemaShape) (batches : List Table) (c : Connection) : Type 0 where
  pub schema_is : Some c.schema ≡ schema
  pub batches_are : c.batches.items ≡ batches
  pub options_are : options_view c.options ≡ options_view terms.options
  pub finishes : c.finish ≡ true
  pub delivers : c.deliver ≡ terms.deliver
