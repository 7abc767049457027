use Rattle.std.proofs.Common.{length}
use Rattle.arrowflow_calls.proofs.places.+place_below.Given as goal

-- how many numbers of the path are left
abbrev pub decreases-place_below : goal.decreases-place_below
decreases-place_below l = length l.path.now
