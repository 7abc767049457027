use Rattle.std.proofs.Common.{drop}
use Rattle.arrow_data.specs.Same.{HaveSlot}
use Rattle.arrow_csv.specs.Layouts.{null_by}
use Rattle.arrow_csv.proofs.Written.{FieldsWritten}
use Rattle.arrow_csv.proofs.records.push_fields.Given as goal

-- texts of the columns before were written; the columns to come have the slot
abbrev pub invariant-loop-column : goal.invariant-loop-column
invariant-loop-column l = FieldsWritten (null_by l.fn.columns.null) l.fn.columns.texts.now l.i l.column-index l.fn.out.items l.out.items × HaveSlot l.i (drop l.column-index l.fn.columns.texts.now)
