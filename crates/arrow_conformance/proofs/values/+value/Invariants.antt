use Rattle.std.proofs.Common.{◌+◌, ◌*◌}
use Rattle.arrow_conformance.proofs.values.+value.Given as goal

-- a value's own slot, then the values below it, with one level less
abbrev pub decreases-push_value : goal.decreases-push_value
decreases-push_value l = 3 * l.levels

abbrev pub decreases-push_plain : goal.decreases-push_plain
decreases-push_plain l = 3 * l.levels + 2

abbrev pub decreases-push_list : goal.decreases-push_list
decreases-push_list l = 3 * l.levels + 1

abbrev pub decreases-push_struct : goal.decreases-push_struct
decreases-push_struct l = 3 * l.slot.1 + 1
