use Rattle.std.proofs.lemmas.Result.{err_from_is_err_and}
use Rattle.arrowflow_text.proofs.Messages.{end_broken, end_reported}
use Rattle.arrowflow_text.proofs.report_writer.ReportWriter.finish.Goals as goal

pub returns-in_err-put_ending-clause-ends : goal.returns-in_err-put_ending-clause-ends
returns-in_err-put_ending-clause-ends g c began bytes left es ended x =
    let sent = c.in_err-put_ending.ensures.sent in
    let same = c.put_ending.ensures.same in
    let failed = err_from_is_err_and c.from_residual.result c.from_residual.ensures.1 in
    rw (failed.1, failed.2)
    (end_broken g.S.Sink.contents g.S.Sink.failed g.S.Sink.is_passed_on began c.args.self.now c.args.marked c.args.reader.now bytes left es ended x sent.0 sent.1 c.put_ending.new.self same.0 same.1 c.in_err-put_ending.field-0.0 sent.2)

pub returns-clause-ends : goal.returns-clause-ends
returns-clause-ends g c began bytes left es ended x =
    let sent = c.in_ok-put_ending.ensures.sent in
    let same = c.put_ending.ensures.same in
    let new = record c.put_ending.new.self { output = c.flush.new.output } in
    end_reported g.S.Sink.contents g.S.Sink.failed g.S.Sink.is_passed_on began c.args.self.now c.args.marked c.args.reader.now bytes left es ended x sent.0 sent.1 (g.S.Sink.contents c.put_ending.new.self.output) (g.S.Sink.failed c.put_ending.new.self.output)
    sent.2 new same.0 same.1 c.flush.result c.flush.ensures.kept c.flush.ensures.passed
