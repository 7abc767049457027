use Rattle.std.proofs.Common.{◌≡◌, ◌+◌, ◌<◌, ℕ, get_or}
use Rattle.arrow_layout.specs.PlainValue.{value_at, null_value}
use Rattle.arrow_data.specs.Column.{row_of}
use Rattle.arrow_data.specs.Same.{slot_measure, items_measure, parts_measure}
use Rattle.arrow_data.proofs.+same.Given as goal

abbrev pub invariant-same::same_items-loop-k : goal.invariant-same::same_items-loop-k
invariant-same::same_items-loop-k l = (k : ℕ) → k < l.k → value_at l.items.array.now.raw (l.items.start + k) ≡ value_at l.others.array.now.raw (l.others.start + k)

abbrev pub invariant-same::same_parts-loop-k : goal.invariant-same::same_parts-loop-k
invariant-same::same_parts-loop-k l = (k : ℕ) → k < l.k → get_or (row_of l.children l.i) k null_value ≡ get_or (row_of l.others l.j) k null_value

abbrev pub decreases-same::same_items : goal.decreases-same::same_items
decreases-same::same_items l = items_measure l.items.array.now

abbrev pub decreases-same::same_parts : goal.decreases-same::same_parts
decreases-same::same_parts l = parts_measure l.children.now

abbrev pub decreases-array::Array::same_slot : goal.decreases-array::Array::same_slot
decreases-array::Array::same_slot l = slot_measure l.self.now
