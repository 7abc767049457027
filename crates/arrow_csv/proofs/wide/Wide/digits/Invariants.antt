use Rattle.std.proofs.Common.{◌≡◌, ◌+◌, ◌-◌, ◌*◌, ◌++◌, ℕ, drop}
use Rattle.arrow_csv.specs.Wide.{last_digits, wide_number}
use Rattle.arrow_csv.proofs.wide.Wide.digits.Given as goal

-- the digits of the chunks so far are there, and those of what is left come before them
abbrev pub invariant-loop-turn : goal.invariant-loop-turn
invariant-loop-turn l =
    (more : ℕ) → last_digits more (wide_number l.left) ++ drop (95 - 19 * l.turn) l.digits ≡ last_digits (more + 19 * l.turn) (wide_number l.fn.self)
