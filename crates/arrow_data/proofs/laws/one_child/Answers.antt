use Rattle.arrow_data.proofs.OnlyChild.{one_child_of}
use Rattle.arrow_data.proofs.laws.one_child.Goals as goal

pub returns : goal.returns
returns c = record { single = one_child_of }
