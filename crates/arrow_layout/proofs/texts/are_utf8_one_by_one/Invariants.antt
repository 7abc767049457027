use Rattle.arrow_layout.specs.Slots.{AreTexts}
use Rattle.arrow_layout.proofs.texts.are_utf8_one_by_one.Given as goal

-- the texts so far are UTF-8
abbrev pub invariant-loop-j : goal.invariant-loop-j
invariant-loop-j l = AreTexts l.strings.width l.j l.strings.validity.now l.strings.offsets.now l.strings.bytes.now
