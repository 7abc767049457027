use Rattle.arrowflow_json.specs.Fields.{name_by}
use Rattle.arrowflow_json.proofs.SchemaWritten.{lines_sent, nothing_sent}
use Rattle.arrowflow_json.proofs.schema.schema_json.Goals as goal

-- the lines were sent
pub returns-in-Ok-clause-written : goal.returns-in-Ok-clause-written
returns-in-Ok-clause-written g c =
    let before = c.args.output in
    let after = c.send_all-answer.new.output in
    lines_sent (name_by c.args.file) c.args.limits.now (g.R.Input.remaining c.args.input.now) (g.R.Input.remaining c.lines_of_input.new.input) (g.S.Sink.contents before) (g.S.Sink.contents after) (g.S.Sink.failed before) (g.S.Sink.failed after)
    c.in-Ok.text c.deref.result.now c.send_all-answer.result c.in-Ok.ensures.answers c.deref.ensures.value c.send_all-answer.ensures.sent

-- there are no lines
pub returns-in-Err-clause-written : goal.returns-in-Err-clause-written
returns-in-Err-clause-written g c =
    let output = c.args.output in
    nothing_sent (name_by c.args.file) c.args.limits.now (g.R.Input.remaining c.args.input.now) (g.R.Input.remaining c.lines_of_input.new.input) (g.S.Sink.contents output) (g.S.Sink.failed output) c.in-Err.fault c.in-Err.ensures.answers
