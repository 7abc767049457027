use Rattle.arrow_layout.specs.Slots.{AreIndices}
use Rattle.arrow_layout.proofs.layout.are_indices_one_by_one.Given as goal

-- the indices so far have their values
abbrev pub invariant-loop-j : goal.invariant-loop-j
invariant-loop-j l = AreIndices l.j l.indices.width l.indices.signed l.indices.validity.now l.indices.values.now l.count
