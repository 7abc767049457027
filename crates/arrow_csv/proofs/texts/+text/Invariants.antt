use Rattle.std.proofs.Common.{◌≤◌, ◌++◌, codes}
use Rattle.arrow_data.specs.Same.{slot_measure, items_measure, parts_measure}
use Rattle.arrow_csv.proofs.Joining.{ItemsWritten, PartsWritten}
use Rattle.arrow_csv.proofs.texts.+text.Given as goal

-- texts of the items before slot k were written
abbrev pub invariant-push_items-loop-k : goal.invariant-push_items-loop-k
invariant-push_items-loop-k l =
    (l.start ≤ l.k) × (l.k ≤ l.end) × ItemsWritten l.items.data_type l.items.resolved l.start l.k (l.fn.out.items ++ codes "[") l.out.items

-- texts of the fields before field k were written
abbrev pub invariant-push_parts-loop-k : goal.invariant-push_parts-loop-k
invariant-push_parts-loop-k l = PartsWritten l.fields l.children l.place l.k (l.fn.out.items ++ codes "{") l.out.items

-- each call goes to smaller columns
abbrev pub decreases-push_value : goal.decreases-push_value
decreases-push_value l = slot_measure l.column.now

-- the child is smaller than its list
abbrev pub decreases-push_items : goal.decreases-push_items
decreases-push_items l = items_measure l.items.now

-- the columns are smaller than their struct
abbrev pub decreases-push_parts : goal.decreases-push_parts
decreases-push_parts l = parts_measure l.children.now
