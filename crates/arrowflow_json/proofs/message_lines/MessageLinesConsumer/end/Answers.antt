use Rattle.std.proofs.Common.{subst}
use Rattle.arrowflow_input.specs.Endings.{SendsSome}
use Rattle.arrowflow_json.specs.Showing.{IsLastBy}
use Rattle.arrowflow_json.proofs.Checking.{end_checked}
use Rattle.arrowflow_json.proofs.message_lines.MessageLinesConsumer.end.Goals as goal

-- the last line was sent, and the output was flushed
pub returns-clause-ends : goal.returns-clause-ends
returns-clause-ends g c began bytes left es ended x =
    let before = c.args.self.output in
    let after = c.finish-answer.new.self.output in
    let held = g.S.Sink.contents before in
    let held' = g.S.Sink.contents after in
    let failed = g.S.Sink.failed before in
    let failed' = g.S.Sink.failed after in
    let reader = c.args.reader.now in
    let answer = c.finish-answer.result in
    let sent = subst (λ f. SendsSome (IsLastBy f c.args.marked reader.at.place) held failed answer held' failed') x.file_is c.finish-answer.ensures.sent in
    (end_checked began.file began.writing held held' failed failed' c.args.marked reader bytes left es ended x.written answer sent, c.finish-answer.ensures.passed)
