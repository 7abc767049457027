use Rattle.std.proofs.Common.{drop}
use Rattle.std.specs.List.{AllByRecursion}
use Rattle.arrow_data.specs.Column.{IsColumn}
use Rattle.arrow_data.proofs.parts.opened.Given as goal

-- what is known of the remaining arrays is all that is missing
abbrev pub invariant-loop-array : goal.invariant-loop-array
invariant-loop-array l = AllByRecursion IsColumn (drop l.array-index l.arrays) → AllByRecursion IsColumn l.arrays
