use Rattle.std.proofs.Common.{length}
use Rattle.arrowflow_diagnosis.proofs.schema_fault.+below.Given as goal

abbrev pub decreases-below : goal.decreases-below
decreases-below l = length l.path.now
