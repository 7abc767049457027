use Rattle.std.proofs.Common.{length, ap, ◌∙◌}
use Rattle.arrowflow_drill.proofs.Inputs.{reports_length}
use Rattle.arrowflow_drill.proofs.drilling.rehearse.Goals as goal

pub cut_up-requires : goal.cut_up-requires
cut_up-requires c = ap length c.deref.ensures.value ∙ reports_length c.args.limits.now c.args.connections.now c.in_ok-whole.whole.items c.in_ok-whole.ensures
