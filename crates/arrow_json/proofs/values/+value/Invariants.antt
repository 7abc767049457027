use Rattle.std.proofs.Common.{◌≤◌}
use Rattle.arrow_data.specs.Same.{slot_measure, items_measure, parts_measure}
use Rattle.arrow_json.proofs.Joining.{ItemsWritten, PartsWritten}
use Rattle.arrow_json.proofs.values.+value.Given as goal

-- the items before slot k were written
abbrev pub invariant-write_items-loop-k : goal.invariant-write_items-loop-k
invariant-write_items-loop-k l =
    (l.start ≤ l.k) × (l.k ≤ l.end) × ItemsWritten l.items.data_type l.items.resolved l.start l.k l.fn.pen.writer l.pen.writer

-- the members of the fields before field k were written
abbrev pub invariant-write_parts-loop-k : goal.invariant-write_parts-loop-k
invariant-write_parts-loop-k l = PartsWritten l.fields l.children l.place l.k l.fn.pen.writer l.pen.writer

-- each call goes to smaller columns
abbrev pub decreases-write_value : goal.decreases-write_value
decreases-write_value l = slot_measure l.column.now

-- the child is smaller than its list
abbrev pub decreases-write_items : goal.decreases-write_items
decreases-write_items l = items_measure l.items.now

-- the columns are smaller than their struct
abbrev pub decreases-write_parts : goal.decreases-write_parts
decreases-write_parts l = parts_measure l.children.now
