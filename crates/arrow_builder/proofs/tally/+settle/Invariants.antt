use Rattle.arrow_builder.specs.Tally.{Settles}
use Rattle.arrow_builder.proofs.Counting.{UpTo}
use Rattle.arrow_builder.proofs.tally.+settle.Given as goal

-- the first tallies are settled, the others are unchanged
abbrev pub invariant-settle_all-loop-k : goal.invariant-settle_all-loop-k
invariant-settle_all-loop-k l = UpTo (λ _. Settles l.next) l.k 0 l.initial.tallies l.tallies × goal.unvisited-settle_all-loop-k l
