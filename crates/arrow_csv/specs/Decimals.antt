-- The texts of decimals: a whole number times a power of 10, its digits with a point. (This project's own: the standard gives
-- none.)
use Rattle.std.specs.Prelude.{ℕ, ℤ, zero, suc, pos, negsuc, ◌+◌, ◌-◌, nat_eq, if◌then◌else◌, unsigned_abs, List, ◌++◌, length, take, drop, map, replicate, codes}
use Rattle.std.specs.Int.{is_negative}
use Rattle.std.specs.Int.Digits.{digits_of}
use Rattle.std.specs.Fmt.{sign_text}

-- the decimal digits of a number of any size (`decimal` of std gives only the last 64 of them)
unfoldable pub numeral : ℕ → List ℕ
numeral n = if nat_eq n 0 then codes "0" else map (λ d. 48 + d) (digits_of 10 n)

-- digits with leading zeros, so that there are at least `count`
abbrev pub zero_filled : ℕ → List ℕ → List ℕ
zero_filled count digits = replicate (count - length digits) 48 ++ digits

-- digits with a point before the last `places` of them
abbrev pub with_point : ℕ → List ℕ → List ℕ
with_point places digits = take (length digits - places) digits ++ codes "." ++ drop (length digits - places) digits

-- the digits of a whole number divided by 10 to the power of the scale
abbrev pub scaled : ℤ → List ℕ → List ℕ
scaled (pos zero) digits = digits
scaled (pos (suc k)) digits = with_point (suc k) (zero_filled (suc k + 1) digits)
scaled (negsuc k) digits = digits ++ codes "e" ++ numeral (suc k)

-- the text of a whole number divided by 10 to the power of the scale
abbrev pub decimal_text : ℤ → ℤ → List ℕ
decimal_text scale number = sign_text (is_negative number) ++ scaled scale (numeral (unsigned_abs number))
