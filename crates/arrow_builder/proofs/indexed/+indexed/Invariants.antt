use Rattle.std.proofs.Common.{◌↔◌, ◌+◌, ◌*◌, drop}
use Rattle.std.specs.List.{AllByRecursion}
use Rattle.arrow_types.specs.Field.{levels}
use Rattle.arrow_builder.specs.Built.{Built, built_size, cut_to, fields_in}
use Rattle.arrow_builder.specs.Finished.{AreIndexed}
use Rattle.arrow_builder.proofs.indexed.+indexed.Given as goal

-- all have their values if and only if those to come have
abbrev pub invariant-all_indexed-loop-node : goal.invariant-all_indexed-loop-node
invariant-all_indexed-loop-node l =
    AllByRecursion (λ (b : Built). AreIndexed l.dictionaries.entries.now (cut_to l.len b)) (drop l.node-index l.nodes) ↔ AllByRecursion (λ (b : Built). AreIndexed l.dictionaries.entries.now (cut_to l.len b)) l.nodes

abbrev pub decreases-are_indexed : goal.decreases-are_indexed
decreases-are_indexed l = 2 * built_size l.node.now + 1

abbrev pub decreases-all_indexed : goal.decreases-all_indexed
decreases-all_indexed l = 2 * levels (fields_in l.nodes.now)
