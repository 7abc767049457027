use Rattle.std.proofs.Common.{◌↔◌, ◌≤◌, drop}
use Rattle.std.specs.List.{AllByRecursion}
use Rattle.arrow_layout.proofs.layout.are_longer.Given as goal

-- all counts are not less exactly when the remaining ones are not
abbrev pub invariant-loop-count : goal.invariant-loop-count
invariant-loop-count l = AllByRecursion (λ count. l.len ≤ count) (drop l.count-index l.counts) ↔ AllByRecursion (λ count. l.len ≤ count) l.counts
