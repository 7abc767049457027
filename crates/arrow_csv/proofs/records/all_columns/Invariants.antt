use Rattle.std.proofs.Common.{◌≡◌, ◌++◌, drop}
use Rattle.arrow_csv.proofs.records.all_columns.Given as goal

-- the columns that were taken, and those to come, are all
abbrev pub invariant-loop-column : goal.invariant-loop-column
invariant-loop-column l = l.columns.items ++ drop l.column-index l.column-items ≡ l.column-items
