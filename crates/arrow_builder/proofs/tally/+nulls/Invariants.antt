use Rattle.std.proofs.Common.{◌+◌, ◌*◌, true, replicate}
use denote.Param.Weighed.{most}
use Rattle.arrow_layout.specs.PlainValue.{null_value}
use Rattle.arrow_builder.specs.declared.tally.Tally.{size-Tally}
use Rattle.arrow_builder.proofs.Counting.{Gives, UpTo}
use Rattle.arrow_builder.proofs.tally.+nulls.Given as goal

-- what the nulls contribute to the first children was counted
abbrev pub invariant-nulls_below-loop-k : goal.invariant-nulls_below-loop-k
invariant-nulls_below-loop-k l = UpTo (Gives l.form (replicate l.count null_value) true) l.k 0 l.initial.tallies l.tallies

abbrev pub decreases-add_nulls : goal.decreases-add_nulls
decreases-add_nulls l = 5 * size-Tally l.tally.now

abbrev pub decreases-nulls_times : goal.decreases-nulls_times
decreases-nulls_times l = 5 * size-Tally l.tally.now + 1

abbrev pub decreases-nulls_items : goal.decreases-nulls_items
decreases-nulls_items l = 5 * size-Tally l.tally.now + 2

abbrev pub decreases-nulls_child : goal.decreases-nulls_child
decreases-nulls_child l = 5 * size-Tally l.tally.now + 3

abbrev pub decreases-nulls_below : goal.decreases-nulls_below
decreases-nulls_below l = 5 * most size-Tally l.tallies.now + 4
