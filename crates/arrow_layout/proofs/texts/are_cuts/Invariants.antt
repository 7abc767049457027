use Rattle.arrow_layout.specs.Cuts.{AreCuts}
use Rattle.arrow_layout.proofs.texts.are_cuts.Given as goal

-- the slots so far end between characters
abbrev pub invariant-loop-j : goal.invariant-loop-j
invariant-loop-j l = AreCuts l.offsets.width l.j l.offsets.bytes.now l.text
