use Rattle.arrow_body_laws.proofs.Raised.{hold_raws}
use Rattle.arrow_body_laws.proofs.laws.columns_hold_raws.Goals as goal

pub returns : goal.returns
returns c = hold_raws
