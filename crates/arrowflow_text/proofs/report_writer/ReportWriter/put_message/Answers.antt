use Rattle.std.proofs.Common.{refl}
use Rattle.std.proofs.lemmas.Result.{err_from_is_err_and}
use Rattle.arrow_stream_reader.specs.Views.{given}
use Rattle.arrowflow_text.specs.Lines.{message_line}
use Rattle.arrowflow_input.proofs.Beginnings.{begun_nothing}
use Rattle.arrowflow_text.proofs.report_writer.ReportWriter.put_message.Goals as goal

-- no line was made, so none was sent
pub returns-in_err-push_line-clause-sent : goal.returns-in_err-push_line-clause-sent
returns-in_err-push_line-clause-sent g c =
    let state = c.args.message.reader.now.at.state in
    let line = message_line c.args.message.place c.args.number state (given c.args.message.item.now) in
    let failed = err_from_is_err_and c.from_residual.result c.from_residual.ensures.1 in
    rw (failed.1, failed.2) (line, (state, refl, refl), (begun_nothing (g.S.Sink.contents c.args.self.now.output) line, refl))
