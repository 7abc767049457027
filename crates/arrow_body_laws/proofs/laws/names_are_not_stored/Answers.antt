use Rattle.arrow_body_laws.proofs.Named.{same_body}
use Rattle.arrow_body_laws.proofs.laws.names_are_not_stored.Goals as goal

pub returns : goal.returns
returns c = same_body
