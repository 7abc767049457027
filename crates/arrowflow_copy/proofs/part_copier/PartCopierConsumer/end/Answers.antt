use Rattle.arrow_stream_writer.specs.Shown.{options_view}
use Rattle.arrowflow_copy.specs.Outbox.{contents_of, failed_of}
use Rattle.arrowflow_copy.specs.Taken.{with_taken}
use Rattle.arrowflow_copy.specs.WriterState.{at_of}
use Rattle.arrowflow_copy.proofs.Copied.{end_copied}
use Rattle.arrowflow_copy.proofs.Taken.{closes}
use Rattle.arrowflow_copy.proofs.part_copier.PartCopierConsumer.end.Goals as goal

pub returns-clause-ends : goal.returns-clause-ends
returns-clause-ends c start bytes left es ended x =
    let copier = c.args.self.copier in
    let at = at_of contents_of failed_of copier.target in
    let at' = at_of contents_of failed_of c.finish-copier.result.0.target in
    let answer = c.finish-copier.result.1 in
    end_copied start.began copier.terms.limits (options_view copier.terms.options) (with_taken start.taken at) copier.number c.args._marked c.args._reader.now bytes left es ended x answer (with_taken start.taken at')
    (closes start.taken at answer at' c.finish-copier.ensures.closes)
