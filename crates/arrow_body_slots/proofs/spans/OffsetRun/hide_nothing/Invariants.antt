use Rattle.std.proofs.Common.{◌≡◌, ◌≤◌, ◌<◌, ◌+◌, ◌-◌, ℕ, false}
use Rattle.arrow_bits.specs.Bitmap.{bit_of}
use Rattle.arrow_body_slots.specs.Spans.{place_in}
use Rattle.arrow_body_slots.proofs.spans.OffsetRun.hide_nothing.Given as goal

-- slot i is the next null, and nothing lies under those before it
abbrev pub invariant-loop-i : goal.invariant-loop-i
invariant-loop-i l =
    (l.self.start ≤ l.i) × (l.i ≤ l.self.stop)
    × ((j : ℕ) → l.self.start ≤ j → j < l.i → bit_of l.bits j ≡ false → place_in l.self (j + 1) ≡ place_in l.self j)

-- the remaining slots
abbrev pub decreases-loop-i : goal.decreases-loop-i
decreases-loop-i l = l.self.stop - l.i
