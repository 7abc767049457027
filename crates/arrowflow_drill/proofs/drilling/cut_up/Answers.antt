use Rattle.std.proofs.Common.{refl, ◌∙◌}
use Rattle.arrowflow_drill.proofs.Inputs.{asked_same}
use Rattle.arrowflow_drill.proofs.drilling.cut_up.Goals as goal

pub loop-number-preserved : goal.loop-number-preserved
loop-number-preserved c = asked_same c.loop-number.connections c.loop-number.number _ c.index-connections-number.result refl ∙ c.loop-number.invariant
