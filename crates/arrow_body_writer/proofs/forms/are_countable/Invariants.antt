use Rattle.std.proofs.Common.{◌<◌, ◌↔◌, drop}
use Rattle.std.specs.List.{AllByRecursion}
use Rattle.arrow_data.specs.Column.{Column}
use Rattle.arrow_body_writer.specs.Sent.{nodes_of_column}
use Rattle.arrow_body_writer.proofs.forms.are_countable.Given as goal

-- all columns have few enough nodes exactly if the remaining ones do
abbrev pub invariant-loop-array : goal.invariant-loop-array
invariant-loop-array l =
    AllByRecursion (λ (c : Column). nodes_of_column c < 18446744073709551615) (drop l.array-index l.arrays)
    ↔ AllByRecursion (λ (c : Column). nodes_of_column c < 18446744073709551615) l.arrays
