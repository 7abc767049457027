use Rattle.std.proofs.Common.{◌↔◌, drop}
use Rattle.arrow_types.specs.View.{fields_view}
use Rattle.arrow_data.specs.Column.{AreOf}
use Rattle.arrow_data.proofs.batch.are_of.Given as goal

-- the columns are those of the fields exactly when the remaining columns are those of the remaining fields
abbrev pub invariant-loop-i : goal.invariant-loop-i
invariant-loop-i l = AreOf (fields_view (drop l.i l.fields)) (drop l.i l.columns) ↔ AreOf (fields_view l.fields) l.columns
