use Rattle.std.proofs.Common.{◌≡◌, ◌≤◌, ◌-◌}
use Rattle.arrow_data.specs.Column.{values_from}
use Rattle.arrow_body_slots.specs.Part.{Puts}
use Rattle.arrow_body_slots.proofs.writing.Writing.put_slots.Given as goal

-- the slots so far are added to the same buffer
abbrev pub invariant-loop-i : goal.invariant-loop-i
invariant-loop-i l =
    (l.slice.start ≤ l.i) × (l.i ≤ l.slice.stop) × (l.part ≡ l.fn.part) × Puts l.fn.part (values_from l.slice.array.now.raw l.slice.start l.i) l.fn.self l.self

abbrev pub decreases-loop-i : goal.decreases-loop-i
decreases-loop-i l = l.slice.stop - l.i
