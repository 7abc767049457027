use Rattle.std.proofs.Common.{◌≡◌, ◌≤◌, ◌<◌, ◌-◌, ◌*◌, List, false, length}
use Rattle.std.specs.Prelude.{slice_range}
use Rattle.arrow_bits.specs.Bitmap.{bit_of}
use Rattle.arrow_layout.specs.PlainValue.{PlainValue}
use Rattle.arrow_body_slots.specs.Marks.{HasNumbers}
use Rattle.arrow_body_slots.proofs.Numbering.{ClearedTo}
use Rattle.arrow_body_slots.proofs.masked.NullMasked.clear_nulls.Given as goal

-- slot i is the next null, and those before it are cleared
abbrev pub invariant-loop-i : goal.invariant-loop-i
invariant-loop-i l =
    (l.start ≤ l.i) × (l.i ≤ l.stop) × (l.i < l.stop → bit_of l.self.bits.now l.i ≡ false) × (length l.numbers ≡ length l.fn.numbers)
    × ((raw : List PlainValue) → HasNumbers l.self raw → l.stop ≤ length raw
    → l.fn.numbers ≡ slice_range l.self.values.now (l.self.width * l.start) (l.self.width * l.stop)
    → l.numbers ≡ ClearedTo l.self raw l.start l.stop l.i)

-- the remaining slots
abbrev pub decreases-loop-i : goal.decreases-loop-i
decreases-loop-i l = l.stop - l.i
