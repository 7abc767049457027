use Rattle.arrow_builder.proofs.NodeSlots.{node_len}
use Rattle.arrow_builder.proofs.node.Node.len.Goals as goal

pub returns : goal.returns
returns c = node_len c.self.inside c.args.self.now c.self.view_is
