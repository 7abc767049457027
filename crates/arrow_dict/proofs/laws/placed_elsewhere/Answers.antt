use Rattle.arrow_dict.proofs.Placing.{listed_elsewhere}
use Rattle.arrow_dict.proofs.laws.placed_elsewhere.Goals as goal

pub returns : goal.returns
returns c = listed_elsewhere
