use Rattle.arrow_dict.proofs.Naming.{each_named}
use Rattle.arrow_dict.proofs.laws.names_each.Goals as goal

pub returns : goal.returns
returns c = each_named
