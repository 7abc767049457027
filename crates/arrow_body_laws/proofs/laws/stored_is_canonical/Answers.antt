use Rattle.arrow_body_laws.proofs.MadeCanonical.{is_canonical}
use Rattle.arrow_body_laws.proofs.laws.stored_is_canonical.Goals as goal

pub returns : goal.returns
returns c = is_canonical
