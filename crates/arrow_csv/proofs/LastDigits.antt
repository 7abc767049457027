-- The digits of a number, also with leading zeros.
use Rattle.std.proofs.Common.{◌≡◌, ◌<◌, ◌≤◌, ◌+◌, ◌-◌, ◌*◌, ◌/◌, ◌%◌, ◌^◌, ◌∷◌, ◌++◌, [], ℕ, zero, suc, Bool, true, false, List, length, drop, set, map, if◌then◌else◌, nat_eq, inl, inr, refl, sym, ap, ◌∙◌, subst, append_assoc, length-append, ne_eqb, arith}
use Rattle.std.proofs.lemmas.Bool.{cases_lt}
use Rattle.std.proofs.Math.Nat.{pow-suc, mul_assoc}
use Rattle.std.proofs.lemmas.Fmt.{decimal_by_steps_wide}
use Rattle.std.proofs.lemmas.Int.Digits.{digits_of_step}
use Rattle.std.proofs.lemmas.List.{append-nil, drop-set, map_push}
use Rattle.std.specs.Fmt.{decimal}
use Rattle.std.specs.Int.Digits.{digits_of}
use Rattle.arrow_csv.specs.Decimals.{numeral}
use Rattle.arrow_csv.specs.Wide.{last_digits, without_zeros}

-- ---- the digits of a number

-- 0 has none
none : (n : ℕ) → n ≡ 0 → digits_of 10 n ≡ []
none zero h = refl
none (suc n) h = absurd (omega arith)

-- those of any other number are its text
some : (n : ℕ) → 0 < n → numeral n ≡ map (λ d. 48 + d) (digits_of 10 n)
unfolding numeral
some n h = rw (ne_eqb n 0 (λ e. omega (arith, e, h))) refl

-- the text of a one-digit number is that digit
pub numeral_digit : (n : ℕ) → n < 10 → numeral n ≡ (48 + n) ∷ []
unfolding numeral
numeral_digit zero h = refl
numeral_digit (suc n) h =
    let front : digits_of 10 (suc n / 10) ≡ [] = none (suc n / 10) (omega arith) in
    let last : suc n % 10 ≡ suc n = omega arith in
    some (suc n) (omega arith) ∙ ap (map (λ d. 48 + d)) (digits_of_step 10 (suc n) (omega arith) (omega arith) ∙ (λ i. front i ++ last i ∷ []))

-- that of any other one ends in its last digit
pub numeral_step : (n : ℕ) → 10 ≤ n → numeral n ≡ numeral (n / 10) ++ (48 + n % 10) ∷ []
numeral_step n h =
    some n (omega (arith, h)) ∙ ap (map (λ d. 48 + d)) (digits_of_step 10 n (omega arith) (omega (arith, h)))
    ∙ map_push (λ d. 48 + d) (digits_of 10 (n / 10)) (n % 10)
    ∙ ap (λ ds. ds ++ (48 + n % 10) ∷ []) (sym (some (n / 10) (omega (arith, h))))

-- up to 64 digits they are those of `decimal`
pub decimal_numeral : (n : ℕ) → n < 10 ^ 64 → decimal n ≡ numeral n
decimal_numeral = decimal_by_steps_wide (λ n ds. ds ≡ numeral n) (λ n l. sym (numeral_digit n l)) (λ n ds l e. ap (λ t. t ++ (48 + n % 10) ∷ []) e ∙ sym (numeral_step n l))

-- what holds of each single digit, and of digits with one more after them, holds of the text of each number
module _ (P : ℕ → List ℕ → Type 0) (one : (n : ℕ) → n < 10 → P n ((48 + n) ∷ [])) (more : (n : ℕ) (ds : List ℕ) → 10 ≤ n → P (n / 10) ds → P n (ds ++ (48 + n % 10) ∷ [])) where
  below : (k n : ℕ) → n ≤ k → P n (numeral n)
  below zero n h = subst (P n) (sym (numeral_digit n (omega arith))) (one n (omega arith))
  below (suc k) n h = elim (cases_lt n 10) [
    | inl l ↦ subst (P n) (sym (numeral_digit n l)) (one n l)
    | inr l ↦ subst (P n) (sym (numeral_step n l)) (more n (numeral (n / 10)) l (below k (n / 10) (omega (arith, h, l))))
  ]

  pub numeral_by_steps : (n : ℕ) → P n (numeral n)
  numeral_by_steps n = below n n (omega arith)

-- it has a digit
some_digit : (n : ℕ) → 0 < length (numeral n)
some_digit = numeral_by_steps (λ n ds. 0 < length ds) (λ n l. omega arith) (λ n ds l h. omega (arith, length-append ds ((48 + n % 10) ∷ [])))

-- ---- the last digits of a number

-- none of them
last_digits_none : (n : ℕ) → last_digits 0 n ≡ []
unfolding last_digits
last_digits_none n = refl

-- one more of them
last_digits_more : (count n : ℕ) → last_digits (suc count) n ≡ last_digits count (n / 10) ++ (48 + n % 10) ∷ []
unfolding last_digits
last_digits_more count n = refl

-- there are exactly `count` of them
pub length-last_digits : (count n : ℕ) → length (last_digits count n) ≡ count
length-last_digits zero n = ap length (last_digits_none n)
length-last_digits (suc count) n =
    omega (arith, ap length (last_digits_more count n), length-append (last_digits count (n / 10)) ((48 + n % 10) ∷ []), length-last_digits count (n / 10))

-- those of a number that is composed of two parts
pub last_digits_parts : (j k q c : ℕ) → c < 10 ^ k → last_digits (j + k) (q * 10 ^ k + c) ≡ last_digits j q ++ last_digits k c
last_digits_parts j zero q c h =
    let same : q * 10 ^ 0 + c ≡ q = omega (arith, h) in
    let count : j + 0 ≡ j = omega arith in
    (λ i. last_digits (count i) (same i)) ∙ sym (ap (λ ds. last_digits j q ++ ds) (last_digits_none c) ∙ append-nil (last_digits j q))
last_digits_parts j (suc k) q c h =
    let power = pow-suc 10 k in
    let whole : q * 10 ^ suc k ≡ q * 10 ^ k * 10 = ap (λ p. q * p) power ∙ sym (mul_assoc q (10 ^ k) 10) in
    let count : j + suc k ≡ suc (j + k) = omega arith in
    let front : (q * 10 ^ suc k + c) / 10 ≡ q * 10 ^ k + c / 10 = omega (arith, whole) in
    let last : (q * 10 ^ suc k + c) % 10 ≡ c % 10 = omega (arith, whole) in
    ap (λ m. last_digits m (q * 10 ^ suc k + c)) count ∙ last_digits_more (j + k) (q * 10 ^ suc k + c) ∙ (λ i. last_digits (j + k) (front i) ++ (48 + last i) ∷ [])
    ∙ ap (λ ds. ds ++ (48 + c % 10) ∷ []) (last_digits_parts j k q (c / 10) (omega (arith, power, h)))
    ∙ append_assoc (last_digits j q) (last_digits k (c / 10)) ((48 + c % 10) ∷ [])
    ∙ ap (λ ds. last_digits j q ++ ds) (sym (last_digits_more k c))

-- one more digit was written before the digits that are there
pub put_next : (digits rest : List ℕ) (place k left number more : ℕ) → k < 19 → place + 19 ≤ length digits → ((m : ℕ) → last_digits m left ++ drop (place + 19 - k) digits ≡ last_digits (m + k) number ++ rest)
    → last_digits more (left / 10) ++ drop (place + 19 - (k + 1)) (set digits (place + 19 - (k + 1)) (48 + left % 10)) ≡ last_digits (more + (k + 1)) number ++ rest
put_next digits rest place k left number more few long standing_text =
    let digit = 48 + left % 10 in
    let p = place + 19 - (k + 1) in
    let after : p + 1 ≡ place + 19 - k = omega (arith, few) in
    let count : suc more + k ≡ more + (k + 1) = omega arith in
    let written : drop p (set digits p digit) ≡ digit ∷ drop (place + 19 - k) digits = drop-set digits p digit (omega (arith, few, long)) ∙ ap (λ n. digit ∷ drop n digits) after in
    ap (λ ds. last_digits more (left / 10) ++ ds) written
    ∙ sym (append_assoc (last_digits more (left / 10)) (digit ∷ []) (drop (place + 19 - k) digits))
    ∙ ap (λ ds. ds ++ drop (place + 19 - k) digits) (sym (last_digits_more more left))
    ∙ standing_text (suc more) ∙ ap (λ m. last_digits m number ++ rest) count

-- so were the digits of the remainder of a division
pub chunk_next : (old new : List ℕ) (turn left q c number more : ℕ) → turn < 5 → q * 10 ^ 19 + c ≡ left → c < 10 ^ 19 → ((m : ℕ) → last_digits m left ++ drop (95 - 19 * turn) old ≡ last_digits (m + 19 * turn) number)
    → drop (95 - 19 * (turn + 1)) new ≡ last_digits 19 c ++ drop (95 - 19 * (turn + 1) + 19) old
    → last_digits more q ++ drop (95 - 19 * (turn + 1)) new ≡ last_digits (more + 19 * (turn + 1)) number
chunk_next old new turn left q c number more few whole small standing_text put =
    let place : 95 - 19 * (turn + 1) + 19 ≡ 95 - 19 * turn = omega (arith, few) in
    let count : more + 19 + 19 * turn ≡ more + 19 * (turn + 1) = omega arith in
    let rest = drop (95 - 19 * turn) old in
    ap (λ ds. last_digits more q ++ ds) (put ∙ ap (λ n. last_digits 19 c ++ drop n old) place)
    ∙ sym (append_assoc (last_digits more q) (last_digits 19 c) rest)
    ∙ ap (λ ds. ds ++ rest) (sym (last_digits_parts more 19 q c small) ∙ ap (last_digits (more + 19)) whole)
    ∙ standing_text (more + 19) ∙ ap (λ m. last_digits m number) count

-- with none left to come all digits are there
pub all_written : (left : ℕ) (digits text : List ℕ) → last_digits 0 left ++ digits ≡ text → digits ≡ text
all_written left digits text h = sym (ap (λ ds. ds ++ digits) (last_digits_none left)) ∙ h

-- ---- without leading zeros

-- after nothing but zeros
trim_none : (xs ys : List ℕ) → length (without_zeros xs) ≡ 0 → without_zeros (xs ++ ys) ≡ without_zeros ys
trim_none [] ys h = refl
trim_none (x ∷ xs) ys h = by (nat_eq x 48) (trim_none xs ys) h
  where
    by : (b : Bool) → (length (without_zeros xs) ≡ 0 → without_zeros (xs ++ ys) ≡ without_zeros ys) → length (if b then without_zeros xs else x ∷ xs) ≡ 0
        → (if b then without_zeros (xs ++ ys) else x ∷ (xs ++ ys)) ≡ without_zeros ys
    by true rest h = rest h
    by false rest h = absurd (omega (arith, h))

-- after a digit that is kept
trim_some : (xs ys : List ℕ) → 0 < length (without_zeros xs) → without_zeros (xs ++ ys) ≡ without_zeros xs ++ ys
trim_some [] ys h = absurd (omega (arith, h))
trim_some (x ∷ xs) ys h = by (nat_eq x 48) (trim_some xs ys) h
  where
    by : (b : Bool) → (0 < length (without_zeros xs) → without_zeros (xs ++ ys) ≡ without_zeros xs ++ ys) → 0 < length (if b then without_zeros xs else x ∷ xs)
        → (if b then without_zeros (xs ++ ys) else x ∷ (xs ++ ys)) ≡ (if b then without_zeros xs else x ∷ xs) ++ ys
    by true rest h = rest h
    by false rest h = refl

-- nothing of 0 is kept
trim_zero : (k n : ℕ) → n ≡ 0 → length (without_zeros (last_digits k n)) ≡ 0
trim_zero zero n h = ap (λ ds. length (without_zeros ds)) (last_digits_none n)
trim_zero (suc k) n h =
    let digit : 48 + n % 10 ≡ 48 = omega (arith, h) in
    ap length (ap without_zeros (last_digits_more k n) ∙ trim_none (last_digits k (n / 10)) ((48 + n % 10) ∷ []) (trim_zero k (n / 10) (omega (arith, h)))
    ∙ ap (λ d. without_zeros (d ∷ [])) digit)

-- if they are enough for it, a number that is not 0 has exactly its digits
pub trimmed : (k n : ℕ) → 0 < n → n < 10 ^ k → without_zeros (last_digits k n) ≡ numeral n
trimmed zero n some fits = absurd (omega (arith, some, fits))
trimmed (suc k) n some fits = elim (cases_lt n 10) [
  | inl l ↦
      let alone = trim_none (last_digits k (n / 10)) ((48 + n % 10) ∷ []) (trim_zero k (n / 10) (omega (arith, l))) in
      let digit : n % 10 ≡ n = omega (arith, l) in
      let shown : without_zeros ((48 + n % 10) ∷ []) ≡ (48 + n % 10) ∷ [] = rw (ne_eqb (48 + n % 10) 48 (λ e. omega (arith, e, l, some))) refl in
      ap without_zeros (last_digits_more k n) ∙ alone ∙ shown ∙ ap (λ d. (48 + d) ∷ []) digit ∙ sym (numeral_digit n l)
  | inr l ↦
      let front = trimmed k (n / 10) (omega (arith, l)) (omega (arith, fits, pow-suc 10 k)) in
      ap without_zeros (last_digits_more k n)
      ∙ trim_some (last_digits k (n / 10)) ((48 + n % 10) ∷ []) (subst (λ ds. 0 < length ds) (sym front) (some_digit (n / 10)))
      ∙ ap (λ ds. ds ++ (48 + n % 10) ∷ []) front ∙ sym (numeral_step n l)
]
