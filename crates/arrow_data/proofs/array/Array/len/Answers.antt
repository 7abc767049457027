use Rattle.arrow_data.proofs.Resolving.{array_known}
use Rattle.arrow_data.proofs.array.Array.len.Goals as goal

pub returns-clause-known : goal.returns-clause-known
returns-clause-known c = array_known c.self.inside c.args.self.now c.self.view_is c.self.invariant
