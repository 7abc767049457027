use Rattle.std.proofs.Common.{refl}
use Rattle.std.proofs.lemmas.Result.{err_from_is_err_and}
use Rattle.arrow_json.specs.Lines.{line_of}
use Rattle.arrow_stream_reader.specs.Views.{given}
use Rattle.arrowflow_input.proofs.Beginnings.{begun_nothing}
use Rattle.arrowflow_json.specs.Fields.{name_by}
use Rattle.arrowflow_json.specs.Messages.{message_json}
use Rattle.arrowflow_json.proofs.message_lines.MessageLines.send_message.Goals as goal

-- the allocation for the line failed
pub returns-in_err-line-clause-sent : goal.returns-in_err-line-clause-sent
returns-in_err-line-clause-sent g c =
    let state = c.args.message.reader.now.at.state in
    let line = line_of (message_json (name_by c.args.self.now.file) c.args.message.place c.args.message.before state (given c.args.message.item.now)) in
    let failed = err_from_is_err_and c.from_residual.result c.from_residual.ensures.1 in
    rw (failed.1, failed.2) (line, (state, refl, refl), (begun_nothing (g.S.Sink.contents c.args.self.now.output) line, refl))
