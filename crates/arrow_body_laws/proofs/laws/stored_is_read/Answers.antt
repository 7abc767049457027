use Rattle.arrow_body_laws.proofs.Whole.{is_read}
use Rattle.arrow_body_laws.proofs.laws.stored_is_read.Goals as goal

pub returns : goal.returns
returns c = is_read
