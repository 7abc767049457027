use Rattle.std.proofs.Common.{sym, subst, Ok}
use Rattle.arrow_stream_reader.specs.State.{schema_given}
use Rattle.arrow_stream_reader.specs.Frame.{BodySays, schema_comes}
use Rattle.arrow_stream_reader.specs.Views.{content_of, plain}
use Rattle.arrow_meta_reader.specs.Means.{schema}
use Rattle.arrow_stream_reader.proofs.state.handle_message.Goals as goal

pub returns-in-Schema-clause-applies : goal.returns-in-Schema-clause-applies
returns-in-Schema-clause-applies c =
    let s = plain c.args.state.now in
    subst (λ m. BodySays s (content_of m) c.args.body.now (Ok (plain c.begin.new.self, schema_given))) (sym c.in-Schema.is)
    (subst (λ x. BodySays s (schema c.in-Schema.schema) c.args.body.now (Ok (x, schema_given))) (sym c.begin.ensures.begun) schema_comes)
