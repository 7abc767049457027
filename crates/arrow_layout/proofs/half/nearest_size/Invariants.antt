-- The size is past all patterns below `low`, and not past `high`.
use Rattle.std.proofs.Common.{◌-◌, ◌≡◌, ◌≤◌, ◌⊎◌, true, false}
use Rattle.arrow_layout.specs.Half.{is_past}
use Rattle.arrow_layout.proofs.half.nearest_size.Given as goal

abbrev pub invariant-loop-low : goal.invariant-loop-low
invariant-loop-low l =
    (l.low ≤ l.high) × (l.high ≤ 31744) × ((l.low ≡ 0) ⊎ (is_past l.size (l.low - 1) ≡ true)) × ((l.high ≡ 31744) ⊎ (is_past l.size l.high ≡ false))

abbrev pub decreases-loop-low : goal.decreases-loop-low
decreases-loop-low l = l.high - l.low
