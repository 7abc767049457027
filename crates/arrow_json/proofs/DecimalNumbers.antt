-- The text of a decimal is a JSON number (RFC 8259, section 6): digits, possibly a fraction or an exponent, and no 0
-- before other digits.
use Rattle.std.proofs.Common.{◌≡◌, ◌<◌, ◌≤◌, ◌+◌, ◌-◌, ◌%◌, ℕ, ℤ, zero, suc, pos, negsuc, Bool, true, false, cond, ◌||◌, ◌==◌, List, [], ◌∷◌, ◌++◌, le-ltb, length, take, drop, replicate, get_or, codes, Some, None, option_and_then, unsigned_abs, inl, inr, refl, sym, ap, ap₂, ◌∙◌, subst, arith, append-nil, append_assoc, length-append, ◌/◌}
use Rattle.std.proofs.lemmas.Bool.{and_from, cases_lt, eqb-true, le-leb, ne_eqb}
use Rattle.std.proofs.lemmas.List.{drop_at, length-drop, length-replicate, length-take}
use Rattle.std.specs.Char.{digit_value, is_ascii_digit}
use Rattle.std.specs.Fmt.{sign_text, signed_decimal}
use Rattle.std.specs.Prelude.{FitsSigned}
use Rattle.std.specs.Int.{is_negative, w128}
use Rattle.std.specs.List.{prefix_len}
use Rattle.std.specs.Str.Parse.{AllDigits}
use Rattle.json.specs.Print.{IsNumber}
use Rattle.json.specs.Word.{after_digits, after_exponent, after_fraction, after_number, after_whole, head}
use Rattle.arrow_csv.specs.Decimals.{decimal_text, numeral, scaled, zero_filled}
use Rattle.arrow_csv.proofs.LastDigits.{decimal_numeral, numeral_by_steps}

-- ---- digits are consumed

digit_range : (d : ℕ) → digit_value d < 10 → (48 ≤ d) × (d ≤ 57)
digit_range d h = grind arith

run : (ds rest : List ℕ) → AllDigits 10 ds → prefix_len is_ascii_digit rest ≡ 0 → prefix_len is_ascii_digit (ds ++ rest) ≡ length ds
run [] rest all none = none
run (d ∷ ds) rest all none =
    let range = digit_range d all.0 in
    ap (λ b. cond b (1 + prefix_len is_ascii_digit (ds ++ rest)) 0) (and_from _ _ (le-leb 48 d range.0) (le-leb d 57 range.1)) ∙ omega (arith, run ds rest all.1 none)

-- one digit or more, and what follows them
digits_passed : (ds rest : List ℕ) → AllDigits 10 ds → 0 < length ds → prefix_len is_ascii_digit rest ≡ 0 → after_digits (ds ++ rest) ≡ Some rest
digits_passed ds rest all some none =
    ap (λ n. cond (n == 0) None (Some (drop n (ds ++ rest)))) (run ds rest all none) ∙ ap (λ b. cond b None (Some (drop (length ds) (ds ++ rest)))) (ne_eqb (length ds) 0 (λ e. omega (arith, e, some)))
    ∙ ap Some (drop_at ds rest _ refl)

-- digits to the end
digits_end : (ds : List ℕ) → AllDigits 10 ds → 0 < length ds → after_digits ds ≡ Some []
digits_end ds all some = ap after_digits (sym (append-nil ds)) ∙ digits_passed ds [] all some refl

-- the digits of a whole number
record IsWhole (ds : List ℕ) : Type 0 where
  digits : AllDigits 10 ds
  some : 0 < length ds
  lead : get_or ds 0 0 ≡ 48 → length ds ≡ 1

lone_zero : (ds rest : List ℕ) → length ds ≡ 0 → ds ++ rest ≡ rest
lone_zero [] rest h = refl
lone_zero (d ∷ ds) rest h = absurd (omega (arith, h))

first_of_whole : (z : Bool) (d : ℕ) (ds rest : List ℕ) → (z ≡ true → length ds ≡ 0) → after_digits (d ∷ ds ++ rest) ≡ Some rest → cond z (Some (ds ++ rest)) (after_digits (d ∷ ds ++ rest)) ≡ Some rest
first_of_whole true d ds rest alone more = ap Some (lone_zero ds rest (alone refl))
first_of_whole false d ds rest alone more = more

-- it is consumed, and does not begin with a minus
whole_passed : (ds rest : List ℕ) → IsWhole ds → prefix_len is_ascii_digit rest ≡ 0 → (after_whole (ds ++ rest) ≡ Some rest) × ((head (ds ++ rest) == 45) ≡ false)
whole_passed [] rest whole none = absurd (omega (arith, whole.some))
whole_passed (d ∷ ds) rest whole none = (
  first_of_whole (d == 48) d ds rest (λ e. omega (arith, whole.lead (eqb-true d 48 e))) (digits_passed (d ∷ ds) rest whole.digits whole.some none),
  ne_eqb d 45 (λ e. omega (arith, e, digit_range d whole.digits.0)),
)

-- what may follow the whole number: nothing, a fraction or an exponent
abbrev Ends : List ℕ → Type 0
Ends rest = (prefix_len is_ascii_digit rest ≡ 0) × (option_and_then after_exponent (after_fraction rest) ≡ Some [])

number_of_parts : (negative : Bool) (ds rest : List ℕ) → IsWhole ds → Ends rest → IsNumber (sign_text negative ++ (ds ++ rest))
unfolding after_number
number_of_parts true ds rest whole ends =
    ap (λ o. option_and_then after_exponent (option_and_then after_fraction o)) (whole_passed ds rest whole ends.0).0 ∙ ends.1
number_of_parts false ds rest whole ends =
    let passed = whole_passed ds rest whole ends.0 in
    ap (λ b. option_and_then after_exponent (option_and_then after_fraction (after_whole (cond b (drop 1 (ds ++ rest)) (ds ++ rest))))) passed.1
    ∙ ap (λ o. option_and_then after_exponent (option_and_then after_fraction o)) passed.0 ∙ ends.1

fraction_ends : (ds : List ℕ) → AllDigits 10 ds → 0 < length ds → Ends (46 ∷ ds)
fraction_ends ds all some = (refl, ap (option_and_then after_exponent) (digits_end ds all some))

exponent_ends : (ds : List ℕ) → AllDigits 10 ds → 0 < length ds → Ends (101 ∷ ds)
exponent_ends [] all some = absurd (omega (arith, some))
exponent_ends (d ∷ ds) all some =
    let range = digit_range d all.0 in
    let unsigned : ((d == 45) || (d == 43)) ≡ false = ap₂ (λ a b. a || b) (ne_eqb d 45 (λ e. omega (arith, e, range))) (ne_eqb d 43 (λ e. omega (arith, e, range))) in
    (refl, ap (λ b. after_digits (cond b ds (d ∷ ds))) unsigned ∙ digits_end (d ∷ ds) all some)

-- ---- the digits of numbers

pub append_digits : (xs ys : List ℕ) → AllDigits 10 xs → AllDigits 10 ys → AllDigits 10 (xs ++ ys)
append_digits [] ys h k = k
append_digits (x ∷ xs) ys h k = (h.0, append_digits xs ys h.1 k)

pub take_digits : (n : ℕ) (ds : List ℕ) → AllDigits 10 ds → AllDigits 10 (take n ds)
take_digits zero ds h = tt
take_digits (suc n) [] h = tt
take_digits (suc n) (d ∷ ds) h = (h.0, take_digits n ds h.1)

pub drop_digits : (n : ℕ) (ds : List ℕ) → AllDigits 10 ds → AllDigits 10 (drop n ds)
drop_digits zero ds h = h
drop_digits (suc n) [] h = tt
drop_digits (suc n) (d ∷ ds) h = drop_digits n ds h.1

zeros_digits : (n : ℕ) → AllDigits 10 (replicate n 48)
zeros_digits zero = tt
zeros_digits (suc n) = (omega arith, zeros_digits n)

digit_is : (d : ℕ) → d < 10 → digit_value (48 + d) < 10
digit_is d h = grind (arith, h)

first_kept : (xs : List ℕ) (y : ℕ) → 0 < length xs → get_or (xs ++ y ∷ []) 0 0 ≡ get_or xs 0 0
first_kept [] y h = absurd (omega (arith, h))
first_kept (x ∷ xs) y h = refl

-- the digits of a number, and that only those of 0 begin with a 0
record IsNumeral (n : ℕ) (ds : List ℕ) : Type 0 where
  digits : AllDigits 10 ds
  some : 0 < length ds
  lead : get_or ds 0 0 ≡ 48 → (n ≡ 0) × (length ds ≡ 1)

one_digit : (n : ℕ) → n < 10 → IsNumeral n ((48 + n) ∷ [])
one_digit n h = record { digits = (digit_is n h, tt); some = omega arith; lead = λ e. (omega (arith, e), refl) }

digit_more : (n : ℕ) (ds : List ℕ) → 10 ≤ n → IsNumeral (n / 10) ds → IsNumeral n (ds ++ (48 + n % 10) ∷ [])
digit_more n ds h k = record {
  digits = append_digits ds ((48 + n % 10) ∷ []) k.digits (digit_is (n % 10) (omega arith), tt);
  some = omega (arith, length-append ds ((48 + n % 10) ∷ []));
  lead = λ e. absurd (omega (arith, h, (k.lead (sym (first_kept ds (48 + n % 10) k.some) ∙ e)).0));
}

numeral_is : (n : ℕ) → IsNumeral n (numeral n)
numeral_is = numeral_by_steps IsNumeral one_digit digit_more

pub numeral_digits : (n : ℕ) → AllDigits 10 (numeral n)
numeral_digits n = (numeral_is n).digits

numeral_whole : (n : ℕ) → IsWhole (numeral n)
numeral_whole n = let is = numeral_is n in record { digits = is.digits; some = is.some; lead = λ e. (is.lead e).1 }

-- ---- the point

pub filled_digits : (count : ℕ) (ds : List ℕ) → AllDigits 10 ds → AllDigits 10 (zero_filled count ds)
filled_digits count ds h = append_digits (replicate (count - length ds) 48) ds (zeros_digits (count - length ds)) h

first_taken : (n : ℕ) (ds : List ℕ) → 0 < n → get_or (take n ds) 0 0 ≡ get_or ds 0 0
first_taken zero ds h = absurd (omega (arith, h))
first_taken (suc n) [] h = refl
first_taken (suc n) (d ∷ ds) h = refl

no_zeros : (n : ℕ) (ds : List ℕ) → n ≡ 0 → replicate n 48 ++ ds ≡ ds
no_zeros zero ds h = refl
no_zeros (suc n) ds h = absurd (omega (arith, h))

-- digits before the point are those of a whole number
before_point : (k : ℕ) (ds : List ℕ) → IsWhole ds → IsWhole (take (length (zero_filled (suc k + 1) ds) - suc k) (zero_filled (suc k + 1) ds))
before_point k ds whole =
    let count = suc k + 1 in
    let all = zero_filled count ds in
    let n = length all - suc k in
    let long = length-append (replicate (count - length ds) 48) ds in
    let zeros = length-replicate {A = ℕ} (count - length ds) 48 in
    let taken = length-take n all in
    record {
      digits = take_digits n all (filled_digits count ds whole.digits);
      some = omega (arith, long, zeros, taken);
      lead = λ e. elim (cases_lt (length ds) count) [
        | inl few ↦ omega (arith, few, long, zeros, taken)
        | inr enough ↦
            let same : all ≡ ds = no_zeros (count - length ds) ds (omega (arith, enough)) in
            let first : get_or ds 0 0 ≡ 48 = sym (ap (λ x. get_or x 0 0) same) ∙ sym (first_taken n all (omega (arith, long, zeros))) ∙ e in
            absurd (omega (arith, enough, whole.lead first))
      ];
    }

-- after it there are as many digits as there are places
after_point : (k : ℕ) (ds : List ℕ) → 0 < length (drop (length (zero_filled (suc k + 1) ds) - suc k) (zero_filled (suc k + 1) ds))
after_point k ds =
    let count = suc k + 1 in
    let all = zero_filled count ds in
    omega (arith, length-drop (length all - suc k) all, length-append (replicate (count - length ds) 48) ds, length-replicate {A = ℕ} (count - length ds) 48)

scaled_number : (negative : Bool) (scale : ℤ) (ds : List ℕ) → IsWhole ds → IsNumber (sign_text negative ++ scaled scale ds)
scaled_number negative (pos zero) ds whole = subst (λ t. IsNumber (sign_text negative ++ t)) (append-nil ds) (number_of_parts negative ds [] whole (refl, refl))
scaled_number negative (pos (suc k)) ds whole =
    let all = zero_filled (suc k + 1) ds in
    let n = length all - suc k in
    let part = drop n all in
    subst (λ t. IsNumber (sign_text negative ++ t)) (sym (append_assoc (take n all) (codes ".") part))
    (number_of_parts negative (take n all) (46 ∷ part) (before_point k ds whole) (fraction_ends part (drop_digits n all (filled_digits (suc k + 1) ds whole.digits)) (after_point k ds)))
scaled_number negative (negsuc k) ds whole =
    subst (λ t. IsNumber (sign_text negative ++ t)) (sym (append_assoc ds (codes "e") (numeral (suc k))))
    (number_of_parts negative ds (101 ∷ numeral (suc k)) whole (exponent_ends (numeral (suc k)) (numeral_digits (suc k)) (numeral_whole (suc k)).some))

-- the text of each decimal is a JSON number
pub decimal_is_number : (scale number : ℤ) → IsNumber (decimal_text scale number)
decimal_is_number scale number = scaled_number (is_negative number) scale (numeral (unsigned_abs number)) (numeral_whole (unsigned_abs number))

-- the digits of a whole number of 128 bits are those of a decimal without places
pub whole_text : (z : ℤ) → FitsSigned w128 z → signed_decimal z ≡ decimal_text (pos 0) z
whole_text (pos n) h = let fits = h.sfits in decimal_numeral n (omega (arith, fits)) ∙ sym (ap (λ b. sign_text b ++ numeral n) (le-ltb n 0 (omega arith)))
whole_text (negsuc n) h = let fits = h.sfits in ap (λ t. 45 ∷ t) (decimal_numeral (suc n) (omega (arith, fits)))
