use Rattle.std.proofs.Common.{◌≤◌, ◌+◌, ◌-◌, ◌*◌}
use Rattle.arrow_data.specs.Column.{values_from}
use Rattle.arrow_body_writer.proofs.Runs.{by_field, by_items}
use Rattle.arrow_body_writer.proofs.Sending.{count_steps}
use Rattle.arrow_body_writer.proofs.walk.+sent.Given as goal

-- what the slots so far send is taken
abbrev pub invariant-take_items-loop-i : goal.invariant-take_items-loop-i
invariant-take_items-loop-i g l =
    (l.lists.start ≤ l.i) × (l.i ≤ l.lists.stop)
    × g.V.SlotVisitor.takes l.fn.visitor l.visitor (by_items l.nulls l.steps (values_from l.lists.array.now.raw l.lists.start l.i))

abbrev pub invariant-take_field-loop-i : goal.invariant-take_field-loop-i
invariant-take_field-loop-i g l =
    (l.structs.start ≤ l.i) × (l.i ≤ l.structs.stop)
    × g.V.SlotVisitor.takes l.fn.visitor l.visitor (by_field l.k l.steps (values_from l.structs.array.now.raw l.structs.start l.i))

abbrev pub decreases-take_items-loop-i : goal.decreases-take_items-loop-i
decreases-take_items-loop-i g l = l.lists.stop - l.i

abbrev pub decreases-take_field-loop-i : goal.decreases-take_field-loop-i
decreases-take_field-loop-i g l = l.structs.stop - l.i

-- each call has one step less left
abbrev pub decreases-take_along : goal.decreases-take_along
decreases-take_along g l = 2 * count_steps l.steps.now

abbrev pub decreases-take_items : goal.decreases-take_items
decreases-take_items g l = 2 * count_steps l.steps.now + 1

abbrev pub decreases-take_field : goal.decreases-take_field
decreases-take_field g l = 2 * count_steps l.steps.now + 1
