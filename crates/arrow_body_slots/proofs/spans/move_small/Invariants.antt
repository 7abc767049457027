use Rattle.std.proofs.Common.{◌≡◌, length}
use Rattle.arrow_body_slots.proofs.Moving.{MovedTo}
use Rattle.arrow_body_slots.proofs.spans.move_small.Given as goal

-- the numbers so far are increased
abbrev pub invariant-loop-k : goal.invariant-loop-k
invariant-loop-k l = (length l.numbers ≡ length l.fn.numbers) × (l.numbers ≡ MovedTo 4 l.by l.k l.fn.numbers)
