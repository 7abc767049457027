use Rattle.std.proofs.Common.{◌↔◌, drop}
use Rattle.arrow_data.specs.Batch.{HaveRows}
use Rattle.arrow_data.proofs.batch.have_rows.Given as goal

-- all columns have the rows exactly when the remaining ones do
abbrev pub invariant-loop-column : goal.invariant-loop-column
invariant-loop-column l = HaveRows l.rows (drop l.column-index l.columns) ↔ HaveRows l.rows l.columns
