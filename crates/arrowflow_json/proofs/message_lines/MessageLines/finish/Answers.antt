use Rattle.arrowflow_json.proofs.Checking.{flushed_after}
use Rattle.arrowflow_json.proofs.message_lines.MessageLines.finish.Goals as goal

-- the output was flushed after the last line
pub returns-clause-sent : goal.returns-clause-sent
returns-clause-sent g c =
    let sent = c.in_ok-send_end.ensures in (
      sent.0,
      sent.1,
      flushed_after sent.0 (g.S.Sink.contents c.args.self.now.output) (g.S.Sink.contents c.send_end.new.self.output) (g.S.Sink.contents c.flush.new.output) (g.S.Sink.failed c.args.self.now.output) (g.S.Sink.failed c.send_end.new.self.output) (g.S.Sink.failed c.flush.new.output) c.flush.result sent.2 c.flush.ensures.kept,
    )
