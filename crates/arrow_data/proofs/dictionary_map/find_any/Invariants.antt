use Rattle.std.proofs.Common.{◌≡◌, drop}
use Rattle.arrow_data.specs.Listed.{listed}
use Rattle.arrow_data.proofs.dictionary_map.find_any.Given as goal

-- the first of the remaining entries is the first of all
abbrev pub invariant-loop-entry : goal.invariant-loop-entry
invariant-loop-entry l = listed (drop l.entry-index l.entries) l.id ≡ listed l.entries l.id
