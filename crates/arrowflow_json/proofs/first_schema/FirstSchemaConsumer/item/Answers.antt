use Rattle.std.proofs.Common.{subst}
use Rattle.arrow_stream_reader.specs.Stream.{GivesNext}
use Rattle.arrowflow_text.proofs.Found.{item_found}
use Rattle.arrowflow_json.proofs.first_schema.FirstSchemaConsumer.item.Goals as goal

-- the first message is the schema
pub returns-clause-takes : goal.returns-clause-takes
returns-clause-takes c start old t es piece n comes none left =
    item_found c.args._reader.now t piece n c.args._item (subst (λ fs. GivesNext piece n c.args._item c.args._reader.now t fs) none comes.gives)
