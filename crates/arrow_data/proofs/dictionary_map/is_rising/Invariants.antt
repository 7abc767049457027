use Rattle.arrow_data.proofs.Ids.{RisesTo}
use Rattle.arrow_data.proofs.dictionary_map.is_rising.Given as goal

-- the ids that were checked rise
abbrev pub invariant-loop-k : goal.invariant-loop-k
invariant-loop-k l = RisesTo l.entries l.k
