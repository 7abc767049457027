use Rattle.std.proofs.Common.{◌≡◌, ◌↔◌, drop}
use Rattle.arrow_types.specs.Notes.{pairs_view}
use Rattle.arrow_types.proofs.notes.same_pairs.Given as goal

-- the pairs are equal exactly if the remaining ones are
abbrev pub invariant-loop-i : goal.invariant-loop-i
invariant-loop-i l = (pairs_view (drop l.i l.pairs) ≡ pairs_view (drop l.i l.others)) ↔ (pairs_view l.pairs ≡ pairs_view l.others)
