use Rattle.std.proofs.Common.{◌≤◌, ◌++◌, ℕ, Bool, List}
use Rattle.arrow_body_slots.specs.Marks.{bits_from}
use Rattle.arrow_body_slots.specs.Packing.{IsPacking}
use Rattle.arrow_body_slots.proofs.packing.BitPacker.push_each.Given as goal

-- the bits so far are added
abbrev pub invariant-loop-i : goal.invariant-loop-i
invariant-loop-i l =
    (l.bits.start ≤ l.i) × (l.i ≤ l.bits.stop)
    × ((before : List ℕ) (was : List Bool) → IsPacking before was l.fn.self.byte l.fn.self.weight l.fn.out.items
    → IsPacking before (was ++ bits_from l.bits.bytes.now l.bits.start l.i) l.self.byte l.self.weight l.out.items)
