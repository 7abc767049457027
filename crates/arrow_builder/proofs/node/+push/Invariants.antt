use Rattle.std.proofs.Common.{◌≡◌, ◌+◌, ◌*◌, replicate, take}
use Rattle.arrow_types.specs.Field.{levels}
use Rattle.arrow_layout.specs.PlainValue.{null_value}
use Rattle.arrow_layout.specs.Value.{value_view, values_view}
use Rattle.arrow_builder.specs.Built.{built_size, fields_in, with_values}
use Rattle.arrow_builder.proofs.Nested.{begun}
use Rattle.arrow_builder.proofs.node.+push.Given as goal

-- the items so far follow the first values
abbrev pub invariant-push_items-loop-item : goal.invariant-push_items-loop-item
invariant-push_items-loop-item l = l.node ≡ with_values l.initial.node (take l.item-index (values_view l.items))

-- the nulls so far follow the first values
abbrev pub invariant-push_nulls-loop-i : goal.invariant-push_nulls-loop-i
invariant-push_nulls-loop-i l = l.node ≡ with_values l.initial.node (replicate l._i null_value)

-- the first columns have their parts
abbrev pub invariant-push_parts-loop-k : goal.invariant-push_parts-loop-k
invariant-push_parts-loop-k l = l.nodes ≡ begun l.k 0 l.at l.initial.nodes (value_view l.value)

abbrev pub decreases-push_value : goal.decreases-push_value
decreases-push_value l = 5 * built_size l.node.now + 4

abbrev pub decreases-push_list : goal.decreases-push_list
decreases-push_list l = 5 * built_size l.node.now + 3

abbrev pub decreases-push_sized : goal.decreases-push_sized
decreases-push_sized l = 5 * built_size l.node.now + 3

abbrev pub decreases-push_run : goal.decreases-push_run
decreases-push_run l = 5 * built_size l.node.now + 2

abbrev pub decreases-push_slots : goal.decreases-push_slots
decreases-push_slots l = 5 * built_size l.node.now + 6

abbrev pub decreases-push_nulls : goal.decreases-push_nulls
decreases-push_nulls l = 5 * built_size l.node.now + 5

abbrev pub decreases-push_struct : goal.decreases-push_struct
decreases-push_struct l = 5 * built_size l.node.now + 3

abbrev pub decreases-push_row : goal.decreases-push_row
decreases-push_row l = 5 * built_size l.node.now + 2

abbrev pub decreases-push_items : goal.decreases-push_items
decreases-push_items l = 5 * built_size l.node.now + 5

abbrev pub decreases-push_parts : goal.decreases-push_parts
decreases-push_parts l = 5 * levels (fields_in l.nodes.now) + 1

abbrev pub decreases-push_at : goal.decreases-push_at
decreases-push_at l = 5 * built_size l.node.now + 5
