use Rattle.std.proofs.Common.{◌+◌, ◌*◌, map, take}
use Rattle.arrow_types.specs.Field.{levels}
use Rattle.arrow_builder.specs.Built.{built_size, cut_to, fields_in}
use Rattle.arrow_builder.specs.Finished.{AreArraysOf}
use Rattle.arrow_builder.proofs.finish.+finish.Given as goal

-- the arrays of the columns so far
abbrev pub invariant-finish_all-loop-node : goal.invariant-finish_all-loop-node
invariant-finish_all-loop-node l = AreArraysOf l.dictionaries.entries.now (map (cut_to l.len) (take l.node-index l.nodes)) l.arrays.items

abbrev pub decreases-finish : goal.decreases-finish
decreases-finish l = 2 * built_size l.node.now + 1

abbrev pub decreases-finish_all : goal.decreases-finish_all
decreases-finish_all l = 2 * levels (fields_in l.nodes.now)
