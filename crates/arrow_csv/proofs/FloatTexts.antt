-- Each floating-point number that a format can hold has a text that parses as it (`float_text`). So each bit pattern
-- has one: its number fits its format (`bits_fit`), and that of a pattern of 16 bits fits the format of 32 bits
-- (`half_fits`). A finite number is m * 2 ^ e. If e is -k below 0 it is m * 5 ^ k / 10 ^ k, a whole number with an
-- exponent of 10, and else a whole number itself. Its text parses as the number nearest to this fraction, and that is
-- the number.
use Rattle.std.proofs.Common.{◌≡◌, ◌<◌, ◌≤◌, ◌+◌, ◌-◌, ◌*◌, ◌/◌, ◌%◌, ◌^◌, ◌∙◌, refl, sym, ap, subst, arith, T, inl, inr}
use Rattle.std.proofs.Common.{ℕ, ℤ, zero, suc, pos, negsuc, Bool, true, false, cond, ◌&&◌, eqb, leb, ltb, Some}
use Rattle.std.proofs.Common.{List, [], ◌∷◌, ◌++◌, length, map, codes, append-nil, le-leb, pow-add}
use Rattle.std.proofs.lemmas.Bool.{cases_eq, cases_lt, eq-eqb, lt-leb, ne_eqb}
use Rattle.std.proofs.lemmas.Float.Parse.{parse_float-text_of, parse_float_on_literals}
use Rattle.std.proofs.lemmas.Int.Digits.{all_below_base_digits_of, number_digits_of}
use Rattle.std.proofs.lemmas.Nat.{mul-pow}
use Rattle.std.proofs.lemmas.Str.{digit_value-digit_char}
use Rattle.std.specs.Char.{digit_char}
use Rattle.std.specs.Float.Numeral.{IsWellFormed, Parts, text_of}
use Rattle.std.specs.Float.Parse.{parse_float}
use Rattle.std.specs.Fmt.{sign_text}
use Rattle.std.specs.Int.Digits.{AllBelowBase, digits_of, number_from_digits_after}
use Rattle.std.specs.Prelude.{from_bits}
use Rattle.std.specs.Str.Parse.{AllDigits, digits_value, digits_value_after}
use lib.Count.{count_trailing_zeros}
use lib.Dec.{leb→le, ltb→lt}
use lib.Ieee.{Float, nan, inf, fin, Format, binary32, prec, emax, low, hid, top, fits, up, down, minus, odd, round, size, of_bits, to_bits}
use lib.Ieee.Bits.{of_bits-fits, of_bits-to_bits}
use lib.Ieee.Exact.{HasValue, round_exact}
use lib.Ieee.Fits.{and_l, and_r, cond-fits, down_pos, inf-fits, nan-fits, odd-fits, round-fits}
use lib.Ieee.Scale.{round_same}
use lib.Pow.{pow-lt, pow_mono, pow_pos, shl_lt}
use native.Mathlib.Nat.{lt_of_lt_of_le, lt_of_mul-lt-mul_right, mul-div_cancel, mul-lt-mul_of_pos_right, pow-suc}
use Rattle.arrow_layout.specs.Half.{half_number, half_of_fields}

-- ---- digits of a number of any size

-- digits as characters
abbrev digits_text : List ℕ → List ℕ
digits_text digits = map digit_char digits

-- a text of a natural number; `digits_of` has no digit for 0, so it begins with a zero
abbrev numeral : ℕ → List ℕ
numeral n = 48 ∷ digits_text (digits_of 10 n)

-- the characters of decimal digits are decimal digits
digits_are : (digits : List ℕ) → AllBelowBase 10 digits → AllDigits 10 (digits_text digits)
digits_are [] below = tt
digits_are (d ∷ digits) below = (rw (digit_value-digit_char d (omega (arith, below.0))) below.0, digits_are digits below.1)

-- they parse as the digits that they were made of, whatever number was read before them
digits_back : (before : ℕ) (digits : List ℕ) → AllBelowBase 10 digits
    → digits_value_after 10 before (digits_text digits) ≡ number_from_digits_after 10 before digits
digits_back before [] below = refl
digits_back before (d ∷ digits) below =
    let value = digit_value-digit_char d (omega (arith, below.0)) in
    ap (λ k. digits_value_after 10 (before * 10 + k) (digits_text digits)) value ∙ digits_back (before * 10 + d) digits below.1

-- a numeral consists of digits
numeral_is : (n : ℕ) → AllDigits 10 (numeral n)
numeral_is n = (omega arith, digits_are (digits_of 10 n) (all_below_base_digits_of 10 n (omega arith)))

-- and parses as its number
numeral_back : (n : ℕ) → digits_value 10 (numeral n) ≡ n
numeral_back n = digits_back 0 (digits_of 10 n) (all_below_base_digits_of 10 n (omega arith)) ∙ number_digits_of 10 n (omega arith)

-- ---- a number that a format holds is the nearest one to its own value

-- the bits of a finite number, by the number as a multiple of the smallest one
bits_by_value : (f : Format) (x : Float) (s : Bool) (a : ℕ) → HasValue x s a (2 ^ low f)
    → to_bits f x ≡ cond s (top f) 0 + (size a - prec f) * hid f + a / 2 ^ (size a - prec f)
unfolding to_bits
bits_by_value f nan s a value = absurd value
bits_by_value f (inf t) s a value = absurd value
bits_by_value f (fin t m e) s a value =
    let count : m * up e * 2 ^ low f / down e ≡ a = ap (λ n. n / down e) value.1 ∙ mul-div_cancel a (down_pos e) in
    λ i. cond (value.0 i) (top f) 0 + (size (count i) - prec f) * hid f + count i / 2 ^ (size (count i) - prec f)

-- two numbers that fit and have the same value are equal
one_of_value : (f : Format) (x y : Float) (s : Bool) (a : ℕ) → T (fits f x) → T (fits f y)
    → HasValue x s a (2 ^ low f) → HasValue y s a (2 ^ low f) → x ≡ y
one_of_value f x y s a x_fits y_fits x_value y_value =
    let same_bits = bits_by_value f x s a x_value ∙ sym (bits_by_value f y s a y_value) in
    sym (of_bits-to_bits f x x_fits) ∙ ap (of_bits f) same_bits ∙ of_bits-to_bits f y y_fits

-- m * 2 ^ e is m * 2 ^ power times the smallest number, which is 2 ^ -low
record IsMultiple (f : Format) (m : ℕ) (e : ℤ) : Type 0 where
  power : ℕ
  few_digits : m < 2 ^ prec f
  in_range : m * 2 ^ power < 2 ^ (low f + suc (emax f))
  same : m * up e * 2 ^ low f ≡ m * 2 ^ power * down e

-- powers of two that are ordered have exponents in the same order
exponent_le : (a b : ℕ) → 2 ^ a ≤ 2 ^ b → a ≤ b
exponent_le a b h = elim (cases_lt b a) [ inl l ↦ absurd (omega (arith, pow-lt l)) | inr l ↦ l ]

-- the power, if the exponent is not too low
power_of : (m l : ℕ) (e : ℤ) → down e ≤ 2 ^ l → (power : ℕ) × (m * up e * 2 ^ l ≡ m * 2 ^ power * down e)
power_of m l (pos k) h = (k + l, rw (pow-add 2 k l) (grind arith))
power_of m l (negsuc k) h =
    let apart : l - suc k + suc k ≡ l = omega (arith, exponent_le (suc k) l h) in
    (l - suc k, ap (λ i. m * 1 * 2 ^ i) (sym apart) ∙ rw (pow-add 2 (l - suc k) (suc k)) (grind arith))

-- each finite number of a format is such a multiple
multiple_of : (f : Format) (s : Bool) (m : ℕ) (e : ℤ) → T (fits f (fin s m e)) → IsMultiple f m e
unfolding fits
multiple_of f s zero e h =
    record { power = 0; few_digits = pow_pos (prec f); in_range = omega (arith, pow_pos (low f + suc (emax f))); same = omega arith }
multiple_of f s (suc m) e h =
    let is_odd = eqb (suc m % 2) 1 in
    let is_short = ltb (suc m) (2 ^ prec f) in
    let is_coarse = leb (down e) (2 ^ low f) in
    let is_below = ltb (suc m * up e) (2 ^ suc (emax f) * down e) in
    let front = and_l (is_odd && is_short && is_coarse) is_below h in
    let few = ltb→lt (suc m) (2 ^ prec f) (and_r is_odd is_short (and_l (is_odd && is_short) is_coarse front)) in
    let coarse = leb→le (down e) (2 ^ low f) (and_r (is_odd && is_short) is_coarse front) in
    let below = ltb→lt (suc m * up e) (2 ^ suc (emax f) * down e) (and_r (is_odd && is_short && is_coarse) is_below h) in
    let unit = power_of (suc m) (low f) e coarse in
    let scaled : suc m * up e * 2 ^ low f < 2 ^ suc (emax f) * down e * 2 ^ low f = mul-lt-mul_of_pos_right below (pow_pos (low f)) in
    let most : 2 ^ suc (emax f) * down e * 2 ^ low f ≡ 2 ^ (low f + suc (emax f)) * down e = rw (pow-add 2 (low f) (suc (emax f))) (grind arith) in
    record { power = unit.0; few_digits = few; in_range = lt_of_mul-lt-mul_right (down e) (omega arith); same = unit.1 }

-- a fraction with the value of that multiple of the smallest number is rounded to the number
rounded : (f : Format) (s : Bool) (m : ℕ) (e : ℤ) (num den : ℕ) → T (fits f (fin s m e)) → 0 < den
    → ((power : ℕ) → m * up e * 2 ^ low f ≡ m * 2 ^ power * down e → num * 2 ^ low f ≡ m * 2 ^ power * den) → round f s num den ≡ fin s m e
rounded f s m e num den h some same =
    let multiple = multiple_of f s m e h in
    let n = m * 2 ^ multiple.power in
    let value : HasValue (round f s n (2 ^ low f)) s n (2 ^ low f) =
    round_exact f s n (2 ^ low f) m multiple.power (pow_pos (low f)) multiple.few_digits multiple.in_range refl in
    round_same f s num den n (2 ^ low f) some (pow_pos (low f)) (same multiple.power multiple.same)
    ∙ one_of_value f (round f s n (2 ^ low f)) (fin s m e) s n (round-fits f s n (2 ^ low f)) h value (refl, multiple.same)

-- ---- texts

-- the number of digits of m * 2 ^ e after the point
abbrev places : ℤ → ℕ
places (pos k) = 0
places (negsuc k) = suc k

-- 10 to that power
ten_to_places : (e : ℤ) → 10 ^ places e ≡ 5 ^ places e * down e
ten_to_places (pos k) = refl
ten_to_places (negsuc k) = mul-pow 5 2 (suc k)

-- a power of 10 is above 0
ten_to_pos : (k : ℕ) → 0 < 10 ^ k
ten_to_pos zero = omega arith
ten_to_pos (suc k) = omega (arith, pow-suc 10 k, ten_to_pos k)

-- the parts of a text such as 0123e-045, a whole number and the exponent -k of 10
abbrev scaled_parts : ℕ → ℕ → Parts
scaled_parts n k = record {
  whole = numeral n;
  point = false;
  fraction = [];
  exponent_negative = true;
  exponent = numeral k;
  len = length (numeral n ++ 101 ∷ 45 ∷ numeral k);
}

-- they are recovered from their text
scaled_well_formed : (n k : ℕ) → IsWellFormed (scaled_parts n k)
scaled_well_formed n k = record {
  whole_digits = numeral_is n;
  fraction_digits = tt;
  exponent_digits = numeral_is k;
  no_point = λ _. refl;
  no_exponent = λ e. absurd (omega (arith, ap length e));
  len_is = refl;
}

-- each finite number of a format has a text, which begins with a minus if the sign is set, also for -0
finite_text : (f : Format) (s : Bool) (m : ℕ) (e : ℤ) → T (fits f (fin s m e)) → (text : List ℕ) × (parse_float f text ≡ Some (fin s m e))
finite_text f s m e h =
    let k = places e in
    let n = m * up e * 5 ^ k in
    let digits : digits_value 10 (numeral n ++ []) * 10 ^ 0 ≡ n = rw (append-nil (numeral n), numeral_back n) (omega arith) in
    let exponent : 0 + digits_value 10 (numeral k) ≡ k = rw (numeral_back k) (omega arith) in
    let value : round f s n (10 ^ k) ≡ fin s m e =
    rounded f s m e n (10 ^ k) h (ten_to_pos k) (λ power same. rw (ten_to_places e) (let wide = ap (λ x. x * 5 ^ k) same in grind arith)) in
    let read = parse_float-text_of f s (scaled_parts n k) (scaled_well_formed n k) (omega arith) in
    (sign_text s ++ text_of (scaled_parts n k), read ∙ (λ i. Some (round f s (digits i) (10 ^ exponent i))) ∙ ap Some value)

-- each number of a format has a text that parses as it
pub float_text : (f : Format) (x : Float) → T (fits f x) → (text : List ℕ) × (parse_float f text ≡ Some x)
unfolding parse_float_on_literals
float_text f nan h = (codes "NaN", refl)
float_text f (inf false) h = (codes "inf", refl)
float_text f (inf true) h = (codes "-inf", refl)
float_text f (fin s m e) h = finite_text f s m e h

-- ---- patterns of bits

-- the number of a pattern of bits is one of the format
pub bits_fit : (f : Format) (b : ℕ) → T (fits f (from_bits f b))
bits_fit f b = of_bits-fits f b

-- a difference is unchanged if both numbers grow by the same amount
minus_shifted : (a b c : ℕ) → minus a b ≡ minus (a + c) (b + c)
minus_shifted a b c = elim (cases_lt a b) [
  | inl l ↦ rw (lt-leb b a l, lt-leb (b + c) (a + c) (omega arith)) (ap negsuc (omega arith))
  | inr l ↦ rw (le-leb b a l, le-leb (b + c) (a + c) (omega arith)) (ap pos (omega arith))
]

-- so is q * 2 ^ k / 2 ^ l
odd_shifted : (d : ℕ) (s : Bool) (q k l c : ℕ) → odd d s q k l ≡ odd d s q (k + c) (l + c)
unfolding odd
odd_shifted d s zero k l c = refl
odd_shifted d s (suc q) k l c =
    let t = count_trailing_zeros d (suc q) in
    let turn : k + t + c ≡ k + c + t = omega arith in
    ap (fin s (suc q / 2 ^ t)) (minus_shifted (k + t) l c ∙ ap (λ i. minus i (l + c)) turn)

-- a number of 11 digits in units of 2^-24 up to 2^5 is one of 32 bits, whose smallest number is 2^-149
small_fits : (s : Bool) (q k : ℕ) → q < 2 ^ 11 → k ≤ 29 → T (fits binary32 (odd 11 s q k 24))
small_fits s q k few small =
    let exponent : 11 + (k + 125) ≤ 165 = omega arith in
    let bound : q * 2 ^ (k + 125) < 2 ^ 165 = lt_of_lt_of_le (shl_lt 11 (k + 125) few) (pow_mono exponent) in
    let shifted = odd-fits binary32 11 s q (k + 125) few (omega arith) (omega arith) in
    subst (λ x. T (fits binary32 x)) (sym (odd_shifted 11 s q k 24 125)) shifted

-- the number of a sign, an exponent field and digits, of 16 bits together, is one of 32 bits
fields_fit : (s : Bool) (x t : ℕ) → x < 32 → t < 1024 → T (fits binary32 (half_of_fields s x t))
fields_fit s zero t few digits = small_fits s t 0 (omega arith) (omega arith)
fields_fit s (suc x) t few digits =
    let special = cond-fits binary32 (eqb t 0) (inf s) nan (inf-fits binary32 s) (nan-fits binary32) in
    let Fits : Bool → Type 0 = λ is_top. T (fits binary32 (cond is_top (cond (eqb t 0) (inf s) nan) (odd 11 s (1024 + t) x 24))) in
    elim (cases_eq (suc x) 31) [
      | inl e ↦ subst Fits (sym (eq-eqb (suc x) 31 e)) special
      | inr e ↦ subst Fits (sym (ne_eqb (suc x) 31 e)) (small_fits s (1024 + t) x (omega arith) (omega arith))
    ]

-- the number of a pattern of 16 bits is one of 32 bits
pub half_fits : (bits : ℕ) → T (fits binary32 (half_number bits))
half_fits bits = fields_fit (leb 32768 bits) (bits % 32768 / 1024) (bits % 1024) (omega arith) (omega arith)
