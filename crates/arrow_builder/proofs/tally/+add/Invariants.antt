use Rattle.std.proofs.Common.{◌+◌, ◌*◌, true, [], ◌∷◌, take}
use denote.Param.Weighed.{most}
use Rattle.arrow_layout.specs.Value.{value_view, values_view}
use Rattle.arrow_builder.specs.Tally.{Adds}
use Rattle.arrow_builder.specs.declared.tally.Tally.{size-Tally}
use Rattle.arrow_builder.proofs.Counting.{Gives, UpTo}
use Rattle.arrow_builder.proofs.tally.+add.Given as goal

-- what the value contributes to the first children was counted
abbrev pub invariant-add_below-loop-k : goal.invariant-add_below-loop-k
invariant-add_below-loop-k l = UpTo (Gives l.given.form (value_view l.given.value.now ∷ []) true) l.k 0 l.initial.tallies l.tallies

-- the values so far were counted
abbrev pub invariant-add_all-loop-value : goal.invariant-add_all-loop-value
invariant-add_all-loop-value l = Adds (take l.value-index (values_view l.values)) l.initial.tally l.tally true

abbrev pub decreases-add : goal.decreases-add
decreases-add l = 6 * size-Tally l.tally.now

abbrev pub decreases-add_all : goal.decreases-add_all
decreases-add_all l = 6 * size-Tally l.tally.now + 1

abbrev pub decreases-add_sized : goal.decreases-add_sized
decreases-add_sized l = 6 * size-Tally l.tally.now + 2

abbrev pub decreases-add_items : goal.decreases-add_items
decreases-add_items l = 6 * size-Tally l.tally.now + 3

abbrev pub decreases-add_child : goal.decreases-add_child
decreases-add_child l = 6 * size-Tally l.tally.now + 4

abbrev pub decreases-add_below : goal.decreases-add_below
decreases-add_below l = 6 * most size-Tally l.tallies.now + 5
