-- Numbers of a fixed width, read as unsigned, that are not above a bound.
use Rattle.std.specs.Prelude.{ℕ, ◌*◌, ◌≤◌, ◌<◌, List}
use Rattle.arrow_bits.specs.Numbers.{number_at}

-- none of the numbers of `width` bytes from number `from` up to `to` is above `top`
abbrev pub AreAtMost : ℕ → List ℕ → ℕ → ℕ → ℕ → Type 0
AreAtMost width bytes from to top = (j : ℕ) → from ≤ j → j < to → number_at bytes (width * j) width ≤ top
