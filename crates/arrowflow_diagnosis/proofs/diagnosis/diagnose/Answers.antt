use Rattle.std.proofs.Common.{rules, ◌≡◌}
use Rattle.arrow_stream_reader.specs.Kind.{number_of}
use Rattle.arrowflow_diagnosis.specs.Holds.{kind_of}
use Rattle.arrowflow_diagnosis.proofs.KindNumbers.{same_kind}
use Rattle.arrowflow_diagnosis.proofs.diagnosis.diagnose.Goals as goal

pub returns-in-Some-clause-kind : goal.returns-in-Some-clause-kind
returns-in-Some-clause-kind c =
    let numbers : number_of (kind_of c.in-Some.diagnosis) ≡ number_of c.args.kind = search rules in
    same_kind (kind_of c.in-Some.diagnosis) c.args.kind numbers
