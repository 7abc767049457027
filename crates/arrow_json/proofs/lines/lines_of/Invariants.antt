use Rattle.std.proofs.Common.{◌≤◌}
use Rattle.arrow_json.specs.Lines.{AreLines, rows_between}
use Rattle.arrow_json.proofs.lines.lines_of.Given as goal

-- the lines of the rows before were written
abbrev pub invariant-loop-i : goal.invariant-loop-i
invariant-loop-i l = AreLines (rows_between l.batch l.fn.rows.start l.i) l.text.items × (l.fn.rows.start ≤ l.i) × (l.i ≤ l.fn.rows.end)
