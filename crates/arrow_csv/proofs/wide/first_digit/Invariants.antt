use Rattle.std.proofs.Common.{◌≡◌, drop}
use Rattle.arrow_csv.specs.Wide.{without_zeros}
use Rattle.arrow_csv.proofs.wide.first_digit.Given as goal

-- the digits passed are zeros
abbrev pub invariant-loop-i : goal.invariant-loop-i
invariant-loop-i l = without_zeros (drop l.i l.digits) ≡ without_zeros l.digits
