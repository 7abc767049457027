use Rattle.arrow_dict.proofs.Placing.{listed_here}
use Rattle.arrow_dict.proofs.laws.placed_here.Goals as goal

pub returns : goal.returns
returns c = listed_here
