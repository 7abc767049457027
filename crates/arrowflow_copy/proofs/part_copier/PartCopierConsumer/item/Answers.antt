use Rattle.std.proofs.Common.{subst}
use Rattle.arrow_stream_reader.specs.Views.{given}
use Rattle.arrow_stream_writer.specs.Shown.{options_view}
use Rattle.arrowflow_copy.specs.Copying.{TakesItem}
use Rattle.arrowflow_copy.specs.Outbox.{contents_of, failed_of}
use Rattle.arrowflow_copy.specs.Taken.{with_taken}
use Rattle.arrowflow_copy.specs.WriterState.{at_of}
use Rattle.arrowflow_copy.proofs.Copied.{message_copied, message_stopped}
use Rattle.arrowflow_copy.proofs.Taken.{takes_item}
use Rattle.arrowflow_copy.proofs.part_copier.PartCopierConsumer.item.Goals as goal

pub returns-in-Ok-clause-takes : goal.returns-in-Ok-clause-takes
returns-in-Ok-clause-takes c start old t es piece n comes x =
    let copier = c.args.self.copier in
    let own = copier.terms.limits in
    let o = options_view copier.terms.options in
    let at = at_of contents_of failed_of copier.target in
    let at' = at_of contents_of failed_of c.take-copier.result.0.target in
    let number' = c.take-copier.result.0.number in
    let new = c.args.reader.now in
    let takes = takes_item start.taken own o new.at.state.schema (given c.args.item) at copier.number c.take-copier.result.1 at' number' c.take-copier.ensures.takes in
    rw c.take-copier.ensures.terms (message_copied start.began own o (with_taken start.taken at) copier.number c.args._place c.args.item old new t es piece n comes x (with_taken start.taken at') number'
    (subst (λ a. TakesItem own o new.at.state.schema (given c.args.item) (with_taken start.taken at) copier.number a (with_taken start.taken at') number') c.in-Ok.is takes))

pub returns-clause-takes : goal.returns-clause-takes
returns-clause-takes c start old t es piece n comes x left =
    let copier = c.args.self.copier in
    let own = copier.terms.limits in
    let o = options_view copier.terms.options in
    let at = at_of contents_of failed_of copier.target in
    let at' = at_of contents_of failed_of c.take-copier.result.0.target in
    let number' = c.take-copier.result.0.number in
    let new = c.args.reader.now in
    let takes = takes_item start.taken own o new.at.state.schema (given c.args.item) at copier.number c.take-copier.result.1 at' number' c.take-copier.ensures.takes in
    message_stopped start.began own o (with_taken start.taken at) copier.number c.args._place c.args.item old new t es piece n comes x (with_taken start.taken at') number' c.in-Err.fault
    (subst (λ a. TakesItem own o new.at.state.schema (given c.args.item) (with_taken start.taken at) copier.number a (with_taken start.taken at') number') c.in-Err.is takes) left
