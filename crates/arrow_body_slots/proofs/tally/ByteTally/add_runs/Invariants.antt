use Rattle.std.proofs.Common.{◌≤◌, ◌-◌}
use Rattle.arrow_data.specs.Column.{values_from}
use Rattle.arrow_body_slots.specs.Tally.{Counts}
use Rattle.arrow_body_slots.proofs.tally.ByteTally.add_runs.Given as goal

-- the slots so far are counted
abbrev pub invariant-loop-i : goal.invariant-loop-i
invariant-loop-i l = (l.slice.start ≤ l.i) × (l.i ≤ l.slice.stop) × Counts l.form (values_from l.slice.array.now.raw l.slice.start l.i) l.fn.self l.self

abbrev pub decreases-loop-i : goal.decreases-loop-i
decreases-loop-i l = l.slice.stop - l.i
