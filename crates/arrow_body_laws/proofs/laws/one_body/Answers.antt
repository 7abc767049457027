use Rattle.arrow_body_laws.proofs.Single.{one_canonical_body}
use Rattle.arrow_body_laws.proofs.laws.one_body.Goals as goal

pub returns : goal.returns
returns c = one_canonical_body
