-- Numbers that are written with more or fewer digits (`odd`), and their patterns of 32 bits.
use Rattle.std.proofs.Common.{◌≡◌, ◌<◌, ◌≤◌, ◌+◌, ◌-◌, ◌*◌, ◌/◌, ◌%◌, ◌^◌, ℕ, zero, suc, Bool, true, false, cond, leb, eqb, leb-true, leb-false, le-leb, ne_eqb, refl, sym, ap, ◌∙◌, subst, arith, inl, inr, pos, negsuc}
use Rattle.std.proofs.lemmas.Bool.{lt-leb}
use Rattle.std.specs.Float.{binary32, inf, nan, fin}
use Rattle.std.specs.Float.Ieee.{neg, odd, minus, of_bits, of_fields}
use Rattle.arrow_layout.specs.Half.{half_of_fields}
use native.Mathlib.Nat.{mul-one, mul_assoc, mul-pos, mul-div_cancel, mul-le-mul_right, mul-lt-mul_of_pos_right, eq-zero-or-pos, pow-succ', zero-mul, lt_of_not-le, lt_irrefl, lt_of_le_of_lt}
use lib.Bits.{shifted_even, shifted_half}
use lib.Count.{count_leading_zeros, count_trailing_zeros, leading_top, under}
use lib.Pow.{pow-add, pow_mono, pow_pos}

-- ---- the zeros at a number's end

-- an odd number with i zeros after it has these at its end
zeros_after : (d m i : ℕ) → m % 2 ≡ 1 → i < d → count_trailing_zeros d (m * 2 ^ i) ≡ i
unfolding count_trailing_zeros
zeros_after zero m i is_odd below = absurd (omega arith)
zeros_after (suc d) m zero is_odd below =
    ap (λ (x : ℕ). under (x % 2) (count_trailing_zeros d (x / 2))) (mul-one m) ∙ ap (λ (r : ℕ). under r (count_trailing_zeros d (m / 2))) is_odd
zeros_after (suc d) m (suc i) is_odd below =
    ap (λ (r : ℕ). under r (count_trailing_zeros d (m * 2 ^ suc i / 2))) (shifted_even m i) ∙ ap (λ (x : ℕ). suc (count_trailing_zeros d x)) (shifted_half m i)
    ∙ ap suc (zeros_after d m i is_odd (omega arith))

-- the value of `odd` for a number above 0
odd_above_0 : (d : ℕ) (s : Bool) (q k l : ℕ) → 0 < q → odd d s q k l ≡ fin s (q / 2 ^ count_trailing_zeros d q) (minus (k + count_trailing_zeros d q) l)
unfolding odd
odd_above_0 d s zero k l some = absurd (omega arith)
odd_above_0 d s (suc q) k l some = refl

-- its value for 0
odd_of_0 : (d : ℕ) (s : Bool) (q k l : ℕ) → q ≡ 0 → odd d s q k l ≡ fin s 0 (pos 0)
unfolding odd
odd_of_0 d s zero k l none = refl
odd_of_0 d s (suc q) k l none = absurd (omega arith)

-- its value for an odd number with i zeros after it
odd_with_zeros : (d : ℕ) (s : Bool) (m i k l : ℕ) → m % 2 ≡ 1 → i < d → odd d s (m * 2 ^ i) k l ≡ fin s m (minus (k + i) l)
odd_with_zeros d s m i k l is_odd below =
    odd_above_0 d s (m * 2 ^ i) k l (mul-pos (omega arith) (pow_pos i)) ∙ ap (λ (t : ℕ). fin s (m * 2 ^ i / 2 ^ t) (minus (k + t) l)) (zeros_after d m i is_odd below)
    ∙ ap (λ (x : ℕ). fin s x (minus (k + i) l)) (mul-div_cancel m (pow_pos i))

-- each number above 0 is an odd one with zeros after it
abbrev Parts : ℕ → ℕ → Type 0
Parts d q = (m : ℕ) × (i : ℕ) × (m % 2 ≡ 1) × (m * 2 ^ i ≡ q)

-- for a number of d digits these are found, digit by digit
parts : (d q : ℕ) → 0 < q → q < 2 ^ d → Parts d q
parts zero q some below = absurd (omega arith)
parts (suc d) q some below = go (q % 2) refl (λ above below_half. parts d (q / 2) above below_half)
  where
    go : (r : ℕ) → q % 2 ≡ r → (0 < q / 2 → q / 2 < 2 ^ d → Parts d (q / 2)) → Parts (suc d) q
    go zero even parts_of_half =
        let half = parts_of_half (omega arith) (omega (arith, pow-succ' 2 d)) in
        (half.0, suc half.1, half.2, omega (arith, ap (λ (x : ℕ). half.0 * x) (pow-succ' 2 half.1), half.3))
    go (suc r) one parts_of_half = (q, 0, omega arith, mul-one q)

-- an odd number has fewer zeros after it than the number has digits
fewer_zeros : (d m i : ℕ) → m % 2 ≡ 1 → m * 2 ^ i < 2 ^ d → i < d
fewer_zeros d m i is_odd below = lt_of_not-le (λ (many : d ≤ i).
    lt_irrefl (2 ^ d) (lt_of_le_of_lt (pow_mono many) (lt_of_le_of_lt (omega (arith, mul-le-mul_right {m = 1} {n = m} (2 ^ i) (omega arith))) below)))

-- ---- one number, written in two ways

-- only the difference of two exponents counts
minus_same : (a l a' l' : ℕ) → a + l' ≡ a' + l → minus a l ≡ minus a' l'
minus_same a l a' l' same = go (leb l a) refl (leb l' a') refl
  where
    go : (b : Bool) → leb l a ≡ b → (b' : Bool) → leb l' a' ≡ b' → cond b (pos (a - l)) (negsuc (l - suc a)) ≡ cond b' (pos (a' - l')) (negsuc (l' - suc a'))
    go true first true second = ap pos (omega (arith, leb-true l a first, leb-true l' a' second))
    go true first false second = absurd (omega (arith, leb-true l a first, leb-false l' a' second))
    go false first true second = absurd (omega (arith, leb-false l a first, leb-true l' a' second))
    go false first false second = ap negsuc (omega (arith, leb-false l a first, leb-false l' a' second))

-- a number with j zeros after it, and the same number without them
pub odd_same : (d d' : ℕ) (s : Bool) (q j k l k' l' : ℕ) → q * 2 ^ j < 2 ^ d → q < 2 ^ d' → k + j + l' ≡ k' + l → odd d s (q * 2 ^ j) k l ≡ odd d' s q k' l'
odd_same d d' s q j k l k' l' below below' same = elim (eq-zero-or-pos q) [
  | inl none ↦ odd_of_0 d s (q * 2 ^ j) k l (ap (λ (x : ℕ). x * 2 ^ j) none ∙ zero-mul (2 ^ j)) ∙ sym (odd_of_0 d' s q k' l' none)
  | inr some ↦
      let its = parts d' q some below' in
      let m = its.0 in
      let i = its.1 in
      let with_zeros : m * 2 ^ (i + j) ≡ q * 2 ^ j = ap (λ (x : ℕ). m * x) (pow-add 2 i j) ∙ sym (mul_assoc m (2 ^ i) (2 ^ j)) ∙ ap (λ (x : ℕ). x * 2 ^ j) its.3 in
      ap (λ (x : ℕ). odd d s x k l) (sym with_zeros)
      ∙ odd_with_zeros d s m (i + j) k l its.2 (fewer_zeros d m (i + j) its.2 (subst (λ (x : ℕ). x < 2 ^ d) (sym with_zeros) below))
      ∙ ap (λ e. fin s m e) (minus_same (k + (i + j)) l (k' + i) l' (omega arith))
      ∙ sym (odd_with_zeros d' s m i k' l' its.2 (fewer_zeros d' m i its.2 (subst (λ (x : ℕ). x < 2 ^ d') (sym its.3) below')))
      ∙ ap (λ (x : ℕ). odd d' s x k' l') its.3
]

-- ---- patterns of 32 bits

-- A number below 2 ^ 12, moved until its first digit is bit 23: by how much, and that it has 24 digits then.
abbrev pub Moved : ℕ → Type 0
Moved q = let shift = count_leading_zeros 32 q - 8 in (8 ≤ count_leading_zeros 32 q) × (shift ≤ 23) × (8388608 ≤ q * 2 ^ shift) × (q * 2 ^ shift < 16777216)

-- it has 32 - 12 zeros before it at least, so that it can be moved
pub moved : (q : ℕ) → 0 < q → q < 4096 → Moved q
moved q some below =
    let first = leading_top 32 q some (omega arith) in
    let place = first.0 in
    let shift = count_leading_zeros 32 q - 8 in
    let short : place < 12 = lt_of_not-le (λ (long : 12 ≤ place). lt_irrefl 4096 (lt_of_le_of_lt (pow_mono long) (lt_of_le_of_lt first.2 below))) in
    let sum : place + shift ≡ 23 = omega (arith, first.1) in
    let sum_after : suc place + shift ≡ 24 = omega arith in
    let lower = mul-le-mul_right {m = 2 ^ place} {n = q} (2 ^ shift) first.2 in
    let upper = mul-lt-mul_of_pos_right {m = q} {n = 2 ^ suc place} {k = 2 ^ shift} first.3 (pow_pos shift) in
    let lowest = pow-add 2 place shift in
    let highest = pow-add 2 (suc place) shift in
    (omega (arith, first.1), omega arith, omega (arith, lower, sym lowest ∙ ap (λ x. 2 ^ x) sum), omega (arith, upper, sym highest ∙ ap (λ x. 2 ^ x) sum_after))

-- the fields that are read from a pattern: its sign, its exponent and the digits after the first
of_bits_is : (b : ℕ) → of_bits binary32 b ≡ of_fields binary32 (leb 2147483648 b) (b % 2147483648 / 8388608) (b % 8388608)
unfolding of_bits
of_bits_is b = refl

-- the number of these fields, if the exponent is neither the least nor the greatest
of_fields_is : (s : Bool) (x t : ℕ) → x < 254 → of_fields binary32 s (suc x) t ≡ odd 24 s (8388608 + t) x 149
unfolding of_fields
of_fields_is s x t below = ap (λ b. cond b (cond (eqb t 0) (inf s) nan) (odd 24 s (8388608 + t) x 149)) (ne_eqb (suc x) 255 (λ same. omega arith))

-- the number of a pattern of an exponent less one and of 24 digits, the first of which adds one to the exponent
number_of_pattern : (s : Bool) (b x digits : ℕ) → x < 254 → 8388608 ≤ digits → digits < 16777216 → leb 2147483648 b ≡ s → b % 2147483648 ≡ x * 8388608 + digits
    → of_bits binary32 b ≡ odd 24 s digits x 149
number_of_pattern s b x digits exponent above below sign size =
    let field : b % 2147483648 / 8388608 ≡ suc x = omega arith in
    let rest : b % 8388608 ≡ digits - 8388608 = omega arith in
    of_bits_is b ∙ ap (λ s. of_fields binary32 s (b % 2147483648 / 8388608) (b % 8388608)) sign ∙ ap (λ (f : ℕ). of_fields binary32 s f (b % 8388608)) field
    ∙ ap (λ (t : ℕ). of_fields binary32 s (suc x) t) rest ∙ of_fields_is s x (digits - 8388608) exponent ∙ ap (λ (q : ℕ). odd 24 s q x 149) (omega arith)

-- the number of at most 12 digits that has this pattern
number_of_moved : (s : Bool) (q k x b : ℕ) → 0 < q → q < 4096 → k ≤ 30 → x ≡ k + 124 - (count_leading_zeros 32 q - 8) → leb 2147483648 b ≡ s
    → b % 2147483648 ≡ x * 8388608 + q * 2 ^ (count_leading_zeros 32 q - 8) → of_bits binary32 b ≡ odd 12 s q k 25
number_of_moved s q k x b some below exponent field sign size =
    let shift = count_leading_zeros 32 q - 8 in
    let its = moved q some below in
    number_of_pattern s b x (q * 2 ^ shift) (omega (arith, its.1)) its.2 its.3 sign size ∙ odd_same 24 12 s q shift x 149 k 25 its.3 below (omega (arith, its.1))

-- the pattern without a sign of a number of at most 12 digits: the exponent less one, and the digits as they were moved
abbrev pub Pattern : ℕ → ℕ → ℕ → Type 0
Pattern q k size = (size ≡ (k + 124 - (count_leading_zeros 32 q - 8)) * 8388608 + q * 2 ^ (count_leading_zeros 32 q - 8)) × (size < 2147483648)

-- the result of the code is this pattern
pub pattern : (q k : ℕ) → 0 < q → q < 4096 → k ≤ 30
    → Pattern q k ((k + 124 - (count_leading_zeros 32 q - 8)) * 8388608 % 4294967296 + q * 2 ^ (count_leading_zeros 32 q - 8) % 4294967296)
pattern q k some below exponent =
    let its = moved q some below in
    let digits = its.3 in
    (omega arith, omega arith)

-- the number of the pattern, with its sign
pub number_of_size : (s : Bool) (q k size : ℕ) → 0 < q → q < 4096 → k ≤ 30 → Pattern q k size → of_bits binary32 (cond s (2147483648 + size) size) ≡ odd 12 s q k 25
number_of_size true q k size some below exponent its =
    number_of_moved true q k (k + 124 - (count_leading_zeros 32 q - 8)) (2147483648 + size) some below exponent refl (le-leb 2147483648 (2147483648 + size) (omega arith)) (omega (arith, its.0, its.1))
number_of_size false q k size some below exponent its =
    number_of_moved false q k (k + 124 - (count_leading_zeros 32 q - 8)) size some below exponent refl (lt-leb 2147483648 size its.1) (omega (arith, its.0, its.1))

-- the pattern 0 is that of the number 0
pub zero_is : (d : ℕ) (s : Bool) (q k l : ℕ) → q ≡ 0 → s ≡ false → of_bits binary32 0 ≡ odd d s q k l
unfolding of_bits of_fields odd
zero_is d s q k l none sign = sym (odd_of_0 d s q k l none ∙ ap (λ s. fin s 0 (pos 0)) sign)

-- with its sign turned it is that of -0
pub minus_zero_is : (d : ℕ) (s : Bool) (q k l : ℕ) → q ≡ 0 → s ≡ true → neg (of_bits binary32 0) ≡ odd d s q k l
unfolding of_bits of_fields odd neg
minus_zero_is d s q k l none sign = sym (odd_of_0 d s q k l none ∙ ap (λ s. fin s 0 (pos 0)) sign)

-- ---- infinite numbers, and NaN

-- NaN
pub nan_is : of_bits binary32 2143289344 ≡ nan
unfolding of_bits of_fields
nan_is = refl

-- the infinite number above 0
pub inf_is : of_bits binary32 2139095040 ≡ inf false
unfolding of_bits of_fields
inf_is = refl

-- and the one below
pub minus_inf_is : of_bits binary32 4286578688 ≡ inf true
unfolding of_bits of_fields
minus_inf_is = refl

-- ---- numbers of 16 bits

-- a number of 11 digits, written with one digit more
one_more : (s : Bool) (q k : ℕ) → q < 2048 → odd 12 s (2 * q) k 25 ≡ odd 11 s q k 24
one_more s q k below = ap (λ (x : ℕ). odd 12 s x k 25) (omega arith) ∙ odd_same 12 11 s q 1 k 25 k 24 (omega arith) below (omega arith)

-- the number of the fields, if the exponent's field is 0
pub half_of_small : (s : Bool) (x t : ℕ) → t < 1024 → x ≡ 0 → odd 12 s (2 * t) 0 25 ≡ half_of_fields s x t
half_of_small s zero t below small = one_more s t 0 (omega arith)
half_of_small s (suc x) t below small = absurd (omega arith)

-- and if it is neither the least nor the greatest
pub half_of_others : (s : Bool) (x t : ℕ) → t < 1024 → (x ≡ 0 → ⊥) → (x ≡ 31 → ⊥) → odd 12 s (2 * (1024 + t)) (x - 1) 25 ≡ half_of_fields s x t
half_of_others s zero t below above_0 below_31 = absurd (above_0 refl)
half_of_others s (suc x) t below above_0 below_31 =
    ap (λ (k : ℕ). odd 12 s (2 * (1024 + t)) k 25) (omega arith) ∙ one_more s (1024 + t) x (omega arith)
    ∙ sym (ap (λ b. cond b (cond (eqb t 0) (inf s) nan) (odd 11 s (1024 + t) x 24)) (ne_eqb (suc x) 31 below_31))
