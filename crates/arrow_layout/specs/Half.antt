-- Numbers of 16 bits (IEEE 754, 3.4 and table 3.5, "binary16"), which no type of the language holds.
use Rattle.std.specs.Prelude.{◌≡◌, ◌≤◌, ◌⊎◌, leb, ◌+◌, ◌-◌, ◌*◌, ◌/◌, ◌%◌, ◌==◌, ℕ, zero, suc, Bool, true, false, ◌||◌, ◌&&◌, if◌then◌else◌}
use Rattle.std.specs.Bool.{MatchBool}
use Rattle.std.specs.Float.{Float, float_with_sign, inf, is_sign_negative, nan}
use Rattle.std.specs.Float.Ieee.{eq, is_nan, lt, odd}

-- The number of a sign, an exponent's field and the digits after the first. A field of 0 has no first digit, and
-- counts as a field of 1; 31 is that of infinite numbers and of NaN. The smallest positive number is 2^-24.
abbrev pub half_of_fields : Bool → ℕ → ℕ → Float
half_of_fields s zero t = odd 11 s t 0 24
half_of_fields s (suc x) t = if suc x == 31 then (if t == 0 then inf s else nan) else odd 11 s (1024 + t) x 24

-- the number of a pattern of 16 bits
abbrev pub half_number : ℕ → Float
half_number bits = half_of_fields (leb 32768 bits) (bits % 32768 / 1024) (bits % 1024)

-- The number in the middle between that of a pattern without a sign and that of the next one, which has one digit
-- more. (After the greatest finite number the next one would be 2^16.)
abbrev pub half_middle : ℕ → Float
half_middle bits = if bits / 1024 == 0 then odd 12 false (2 * (bits % 1024) + 1) 0 25 else odd 12 false (2 * (1024 + bits % 1024) + 1) (bits / 1024 - 1) 25

-- whether a size is nearer to a later number than to that of this pattern; a size in the middle is rounded to the
-- even pattern
abbrev pub is_past : Float → ℕ → Bool
is_past size bits = lt (half_middle bits) size || (eq (half_middle bits) size && bits % 2 == 1)

-- the pattern without a sign that is nearest to a size
abbrev pub IsNearestSize : Float → ℕ → Type 0
IsNearestSize size bits = (bits ≤ 31744) × ((bits ≡ 0) ⊎ (is_past size (bits - 1) ≡ true)) × ((bits ≡ 31744) ⊎ (is_past size bits ≡ false))

-- the pattern of the number of 16 bits that is nearest to a number, with that number's sign: past the middle after
-- the greatest finite number it is the infinite one (IEEE 754, 4.3.1, "roundTiesToEven")
abbrev pub IsNearestNumber : Float → ℕ → Type 0
IsNearestNumber x bits = (size : ℕ) × IsNearestSize (float_with_sign false x) size × (bits ≡ (if is_sign_negative x then 32768 else 0) + size)

-- the same, and one quiet pattern for NaN
abbrev pub IsNearestHalf : Float → ℕ → Type 0
IsNearestHalf x bits = MatchBool (is_nan x) (bits ≡ 32256) (IsNearestNumber x bits)
