use Rattle.arrow_dict.proofs.Placing.{rising_placed}
use Rattle.arrow_dict.proofs.laws.stays_rising.Goals as goal

pub returns : goal.returns
returns c = rising_placed
