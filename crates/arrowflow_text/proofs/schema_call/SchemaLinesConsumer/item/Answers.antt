use Rattle.std.specs.Prelude.{string_bytes}
use Rattle.arrowflow_text.proofs.Found.{schema_came, text_came}
use Rattle.arrowflow_text.proofs.schema_call.SchemaLinesConsumer.item.Goals as goal

pub returns-in-Ok-clause-takes : goal.returns-in-Ok-clause-takes
returns-in-Ok-clause-takes c start old t es piece n comes none left = text_came c.args._place c.args._item old c.args.reader.now t es piece n comes none c.in-Some.schema.now c.in-Some.ensures.schema (string_bytes c.in-Ok.text) c.in-Ok.ensures

pub returns-clause-takes : goal.returns-clause-takes
returns-clause-takes c start old t es piece n comes none = absurd (schema_came c.args._place c.args._item old c.args.reader.now t es piece n comes none c.in-None.ensures.schema)
