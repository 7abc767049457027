-- The rest of a number of things.
use Rattle.std.specs.Prelude.{ℕ, ◌-◌, Option, Some, None, nat_lt, if◌then◌else◌}

-- the rest of `most` after n are taken, none if there are too few
abbrev pub left_of : ℕ → ℕ → Option ℕ
left_of most n = if nat_lt most n then None else Some (most - n)
