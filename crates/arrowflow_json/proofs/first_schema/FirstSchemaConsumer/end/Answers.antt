use Rattle.arrowflow_text.proofs.Found.{never_ended}
use Rattle.arrowflow_json.proofs.first_schema.FirstSchemaConsumer.end.Goals as goal

-- no stream ends well before its schema
pub returns-clause-ends : goal.returns-clause-ends
returns-clause-ends c start bytes left es ended none = absurd (never_ended c.args._marked c.args._reader.now bytes left es ended none)
