use Rattle.std.proofs.Common.{◌≤◌, arith, ap, ◌∙◌}
use Rattle.arrow_builder.specs.Built.{cut_to}
use Rattle.arrow_builder.proofs.NodeSlots.{node_cut, node_cut_view, node_len}
use Rattle.arrow_builder.proofs.node.Node.cut.Goals as goal

pub invariant_of-self : goal.invariant_of-self
invariant_of-self c =
    let inside : c.args.at ≤ c.self.inside.len = omega (arith, c.requires, node_len c.self.inside c.args.self.now c.self.view_is) in
    node_cut c.self.inside c.args.at inside c.self.invariant

pub returns : goal.returns
returns c =
    let inside : c.args.at ≤ c.self.inside.len = omega (arith, c.requires, node_len c.self.inside c.args.self.now c.self.view_is) in
    node_cut_view c.self.inside c.args.at inside ∙ ap (cut_to c.args.at) c.self.view_is
