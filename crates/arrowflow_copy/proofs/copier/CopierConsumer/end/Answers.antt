use Rattle.arrow_stream_writer.specs.Shown.{options_view}
use Rattle.arrowflow_copy.specs.WriterState.{at_of}
use Rattle.arrowflow_copy.proofs.Copied.{end_copied, end_through, end_writes}
use Rattle.arrowflow_copy.proofs.copier.CopierConsumer.end.Goals as goal

pub returns-clause-ends : goal.returns-clause-ends
returns-clause-ends g c began bytes left es ended x =
    let copier = c.args.self in
    let own = copier.terms.limits in
    let o = options_view copier.terms.options in
    let at = at_of g.S.Sink.contents g.S.Sink.failed copier.target in
    let at' = at_of g.S.Sink.contents g.S.Sink.failed c.finish.result.0.target in
    let r = c.args._reader.now in (
      end_copied began own o at copier.number c.args._marked r bytes left es ended x c.finish.result.1 at' c.finish.ensures.closes,
      c.finish.ensures.passed (end_writes began own o at copier.number c.args._marked r bytes left es ended x),
      end_through at c.finish.result.1 at' c.finish.ensures.closes r bytes (es, ended.position),
    )
