use Rattle.arrowflow_json.proofs.Showing.{message_cut, message_shown}
use Rattle.arrowflow_json.proofs.row_lines.RowLinesConsumer.item.Goals as goal

-- the lines of the message were sent
pub returns-in-Ok-clause-takes : goal.returns-in-Ok-clause-takes
returns-in-Ok-clause-takes g c began old t es piece n comes x =
    let before = c.args.self.output in
    let after = c.take.new.self.output in
    message_shown began (g.S.Sink.contents before) (g.S.Sink.contents after) (g.S.Sink.failed before) (g.S.Sink.failed after) c.args._place c.args.item old c.args._reader.now t es piece n comes x c.in-Ok.ensures

-- or they were not sent completely
pub returns-clause-takes : goal.returns-clause-takes
returns-clause-takes g c began old t es piece n comes x left =
    let before = c.args.self.output in
    let after = c.take.new.self.output in
    (message_cut began (g.S.Sink.contents before) (g.S.Sink.contents after) (g.S.Sink.failed before) (g.S.Sink.failed after) c.args._place c.args.item old c.args._reader.now t es piece n comes x c.in-Err.fault c.in-Err.ensures left, tt)
