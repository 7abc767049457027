use Rattle.std.proofs.Common.{◌≡◌, drop}
use Rattle.arrow_flatbuf.specs.Layout.{slots_end}
use Rattle.arrow_flatbuf.proofs.layout.slots_end.Given as goal

abbrev pub invariant-loop-slot : goal.invariant-loop-slot
invariant-loop-slot l = slots_end l.end (drop l.slot-index l.slots) ≡ slots_end l.place l.slots
