use Rattle.std.proofs.Common.{◌≡◌, take}
use Rattle.arrow_types.specs.Notes.{pairs_view}
use Rattle.arrow_types.proofs.notes.copy_pairs.Given as goal

-- the copies so far are equal to the pairs so far
abbrev pub invariant-loop-pair : goal.invariant-loop-pair
invariant-loop-pair l = pairs_view l.copies.items ≡ pairs_view (take l.pair-index l.pairs)
