-- Numbers of 256 bits, and the digits of a number with leading zeros.
use Rattle.std.specs.Prelude.{ℕ, zero, suc, ◌+◌, ◌*◌, ◌/◌, ◌%◌, ◌^◌, nat_eq, if◌then◌else◌, List, [], ◌∷◌, ◌++◌}
use Rattle.arrow_csv.specs.declared.wide.Wide.{Wide}

-- the number
abbrev pub wide_number : Wide → ℕ
wide_number w = w.high * 2 ^ 128 + w.low

-- the last `count` decimal digits of a number, with leading zeros if it has fewer
unfoldable pub last_digits : ℕ → ℕ → List ℕ
last_digits zero n = []
last_digits (suc count) n = last_digits count (n / 10) ++ (48 + n % 10) ∷ []

-- digits without leading zeros
abbrev pub without_zeros : List ℕ → List ℕ
without_zeros [] = []
without_zeros (digit ∷ digits) = if nat_eq digit 48 then without_zeros digits else digit ∷ digits
