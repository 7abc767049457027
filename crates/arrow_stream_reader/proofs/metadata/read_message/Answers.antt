use Rattle.std.proofs.Common.{rules, ◌+◌, length, subst}
use Rattle.std.proofs.lemmas.Result.{err_from_is_err_and}
use Rattle.arrow_meta_reader.specs.Means.{message_view}
use Rattle.arrow_stream_reader.specs.Views.{StopsBy, plain}
use Rattle.arrow_stream_reader.proofs.Meanings.{fault_stops, message_is_read, message_meant}
use Rattle.arrow_stream_reader.proofs.metadata.read_message.Goals as goal

pub returns-in_err-message-clause-says : goal.returns-in_err-message-clause-says
returns-in_err-message-clause-says c =
    let end = c.args.start.now.place + length c.args.metadata.now in
    let failed = err_from_is_err_and c.from_residual.result c.from_residual.ensures.1 in
    let stop = c.in_err-message.field-0.0 in
    rw (failed.1, failed.2) (fault_stops c.args.start.now.limits.now (plain c.args.start.now.state.now) c.args.start.now.place c.args.metadata.now _ c.decode_into-decoded.result stop c.decode_into-decoded.ensures.decoded c.in_err-message.ensures.cases
    (λ fault k. let reported : StopsBy stop c.is_some-has_schema.result end fault = search rules in subst (λ b. StopsBy stop b end fault) c.is_some-has_schema.ensures reported))

pub returns-clause-says : goal.returns-clause-says
returns-clause-says c =
    let means = message_meant c.args.start.now.limits.now c.args.metadata.now _ c.decode_into-decoded.result c.in_ok-message.message c.decode_into-decoded.ensures.decoded c.in_ok-message.ensures.cases (λ fault k. k) in
    message_is_read c.args.start.now.limits.now (plain c.args.start.now.state.now) c.args.start.now.place c.args.metadata.now (message_view c.in_ok-message.message) c.message_at.result means c.message_at.ensures.placed
