use Rattle.std.proofs.Common.{◌≡◌, ◌+◌, ◌-◌, ◌++◌, ℕ, drop}
use Rattle.arrow_csv.specs.Wide.{last_digits}
use Rattle.arrow_csv.proofs.wide.put_digits.Given as goal

-- the last k digits are there, and those of what is left come before them
abbrev pub invariant-loop-k : goal.invariant-loop-k
invariant-loop-k l =
    (more : ℕ) → last_digits more l.left ++ drop (l.place + 19 - l.k) l.digits ≡ last_digits (more + l.k) l.number ++ drop (l.place + 19) l.initial.digits
