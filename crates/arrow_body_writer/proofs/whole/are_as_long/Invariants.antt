use Rattle.std.proofs.Common.{◌≡◌, ◌↔◌, drop, length}
use Rattle.std.specs.List.{AllByRecursion}
use Rattle.arrow_data.specs.Column.{Column}
use Rattle.arrow_body_writer.proofs.whole.are_as_long.Given as goal

-- all arrays have that length exactly if the remaining ones do
abbrev pub invariant-loop-array : goal.invariant-loop-array
invariant-loop-array l = AllByRecursion (λ (c : Column). length c.raw ≡ l.len) (drop l.array-index l.arrays) ↔ AllByRecursion (λ (c : Column). length c.raw ≡ l.len) l.arrays
