use Rattle.std.proofs.Common.{◌≡◌, ◌<◌, ◌-◌, ℕ, length}
use Rattle.arrow_layout.specs.PlainValue.{value_at}
use Rattle.arrow_data.proofs.array.Dictionary.begins.Given as goal

-- the values before value i are equal
abbrev pub invariant-loop-i : goal.invariant-loop-i
invariant-loop-i l = (k : ℕ) → k < l.i → value_at l.self.values k ≡ value_at l.other.values k

abbrev pub decreases-loop-i : goal.decreases-loop-i
decreases-loop-i l = length l.self.values - l.i
