use Rattle.std.proofs.Common.{◌<◌, ◌++◌, sym, subst}
use Rattle.arrow_stream_reader.specs.Views.{given}
use Rattle.arrow_stream_writer.specs.Shown.{options_view}
use Rattle.arrowflow_copy.specs.Copying.{TakesItem}
use Rattle.arrowflow_copy.specs.WriterState.{at_of}
use Rattle.arrowflow_copy.proofs.Copied.{item_through, message_copied, message_stopped, takes_failures}
use Rattle.arrowflow_copy.proofs.copier.CopierConsumer.item.Goals as goal

pub returns-in-Ok-clause-takes : goal.returns-in-Ok-clause-takes
returns-in-Ok-clause-takes g c began old t es piece n comes x =
    let copier = c.args.self in
    let own = copier.terms.limits in
    let o = options_view copier.terms.options in
    let at = at_of g.S.Sink.contents g.S.Sink.failed copier.target in
    let at' = at_of g.S.Sink.contents g.S.Sink.failed c.take-copier.result.0.target in
    let number' = c.take-copier.result.0.number in
    let new = c.args.reader.now in
    rw c.take-copier.ensures.terms (message_copied began own o at copier.number c.args._place c.args.item old new t es piece n comes x at' number' (subst (λ a. TakesItem own o new.at.state.schema (given c.args.item) at copier.number a at' number') c.in-Ok.is c.take-copier.ensures.takes))

pub returns-in-Ok-clause-ready : goal.returns-in-Ok-clause-ready
returns-in-Ok-clause-ready g c more =
    let copier = c.args.self in
    let own = copier.terms.limits in
    let o = options_view copier.terms.options in
    let at = at_of g.S.Sink.contents g.S.Sink.failed copier.target in
    let at' = at_of g.S.Sink.contents g.S.Sink.failed c.take-copier.result.0.target in
    let number' = c.take-copier.result.0.number in
    let schema = c.args.reader.now.at.state.schema in
    let takes = subst (λ a. TakesItem own o schema (given c.args.item) at copier.number a at' number') c.in-Ok.is c.take-copier.ensures.takes in
    subst (λ k. k < 18446744073709551615) (sym (takes_failures own o schema (given c.args.item) at at' copier.number number' takes)) c.requires.ready

pub returns-clause-takes : goal.returns-clause-takes
returns-clause-takes g c began old t es piece n comes x left =
    let copier = c.args.self in
    let own = copier.terms.limits in
    let o = options_view copier.terms.options in
    let at = at_of g.S.Sink.contents g.S.Sink.failed copier.target in
    let at' = at_of g.S.Sink.contents g.S.Sink.failed c.take-copier.result.0.target in
    let number' = c.take-copier.result.0.number in
    let new = c.args.reader.now in
    let fault = c.in-Err.fault in
    let takes = subst (λ a. TakesItem own o new.at.state.schema (given c.args.item) at copier.number a at' number') c.in-Err.is c.take-copier.ensures.takes in
    (message_stopped began own o at copier.number c.args._place c.args.item old new t es piece n comes x at' number' fault takes left, tt, item_through own o new.at.state.schema (given c.args.item) at copier.number fault at' number' takes new (t ++ piece))
