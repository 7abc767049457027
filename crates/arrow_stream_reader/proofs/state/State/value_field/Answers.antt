use Rattle.std.proofs.Common.{ap, sym, subst}
use Rattle.arrow_types.specs.Schema.{IsSchema}
use Rattle.arrow_stream_reader.specs.State.{fields_in}
use Rattle.arrow_stream_reader.proofs.Fitness.{values_flat}
use Rattle.arrow_stream_reader.proofs.state.State.value_field.Goals as goal

pub returns-in-Some-clause-flat : goal.returns-in-Some-clause-flat
returns-in-Some-clause-flat c =
    let known = subst IsSchema (sym (ap fields_in c.in-Some.is)) c.value_field.ensures.known in
    λ t e. values_flat (fields_in c.args.self.now.schema) c.args.id t known e
