use Rattle.std.proofs.Common.{◌-◌}
use Rattle.arrow_conformance.proofs.columns.+gather.Given as goal

-- the remaining levels
abbrev pub decreases-gather : goal.decreases-gather
decreases-gather l = 40 - l.level
