use Rattle.std.proofs.Common.{◌≡◌, ◌↔◌, drop}
use Rattle.std.specs.List.{AllByRecursion}
use Rattle.arrow_data.specs.Column.{counts_of}
use Rattle.arrow_stream_reader.proofs.body.have_rows.Given as goal

-- all have that many rows exactly when the remaining ones do
abbrev pub invariant-loop-column : goal.invariant-loop-column
invariant-loop-column l = AllByRecursion (λ n. n ≡ l.rows) (counts_of (drop l.column-index l.columns)) ↔ AllByRecursion (λ n. n ≡ l.rows) (counts_of l.columns)
