use Rattle.std.proofs.Common.{length}
use Rattle.arrowflow_c.proofs.columns.+column_below.Given as goal

-- how many numbers of the path are left
abbrev pub decreases-column_below : goal.decreases-column_below
decreases-column_below l = length l.path.now
