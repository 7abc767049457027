use Rattle.std.proofs.Common.{◌∙◌, take, drop, inl}
use Rattle.arrow_meta_reader.specs.Means.{message_view}
use Rattle.arrowflow_calls.specs.Blame.{refusal_by}
use Rattle.arrowflow_calls.proofs.Blaming.{no_message, one_message}
use Rattle.arrowflow_calls.proofs.culprit.culprit_of.Goals as goal

pub returns-in-Ok : goal.returns-in-Ok
returns-in-Ok c =
    let metadata = c.head.ensures ∙ (λ i. take (c.metadata_size-size.ensures i) (c.tail-rest.ensures i)) in
    let after = c.tail.ensures ∙ (λ i. drop (c.metadata_size-size.ensures i) (c.tail-rest.ensures i)) in
    inl (one_message c.args.limits.now (refusal_by c.args.fault) c.args.reader.now.at.state c.args.message.now c.head.result.now c.tail.result.now (message_view c.in-Ok.message) c.in_message.result metadata after c.in-Ok.ensures.decoded c.in_message.ensures)

pub returns-in-Err-2 : goal.returns-in-Err-2
returns-in-Err-2 c =
    let metadata = c.head.ensures ∙ (λ i. take (c.metadata_size-size.ensures i) (c.tail-rest.ensures i)) in
    inl (no_message c.args.limits.now (refusal_by c.args.fault) c.args.reader.now.at.state c.args.message.now c.head.result.now c.in-Err.fault c.none-in-Err-2.result metadata c.if-is_memory.ensures c.in-Err.ensures.decoded c.none-in-Err-2.ensures)
