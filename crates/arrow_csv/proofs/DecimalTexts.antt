-- The texts of decimals: they need no quotes, and they are those of the whole numbers.
use Rattle.std.proofs.Common.{◌≡◌, ◌<◌, ◌+◌, ◌-◌, ◌%◌, ◌^◌, ◌∷◌, ◌++◌, [], ℕ, ℤ, zero, suc, pos, negsuc, Bool, true, false, List, length, take, drop, replicate, codes, unsigned_abs, refl, sym, ap, ◌∙◌, append_assoc, int_lt, ltb-false, of_z, arith}
use Rattle.std.proofs.lemmas.Bool.{or_parts}
use Rattle.std.proofs.lemmas.List.{take-append-drop}
use Rattle.std.proofs.lemmas.List.Folds.{list_any-append}
use Rattle.std.specs.Fmt.{sign_text, signed_decimal}
use Rattle.std.specs.Int.{is_negative, w8}
use Rattle.csv.specs.Writing.{default_writer, needs_byte, needs_quotes}
use Rattle.arrow_csv.specs.Decimals.{decimal_text, numeral, scaled, with_point, zero_filled}
use Rattle.arrow_csv.specs.Texts.{Appends, IsPlain}
use Rattle.arrow_csv.proofs.Digits.{byte_plain}
use Rattle.arrow_csv.proofs.LastDigits.{decimal_numeral, numeral_by_steps}
use Rattle.arrow_csv.proofs.Numerals.{both_plain}

-- ---- no quotes

-- a digit needs none
digit_plain : (d : ℕ) → needs_quotes default_writer ((48 + d) ∷ []) ≡ false
digit_plain d = rw (byte_plain (48 + d) (omega arith)) refl

-- nor does a number
numeral_plain : (n : ℕ) → needs_quotes default_writer (numeral n) ≡ false
numeral_plain = numeral_by_steps (λ n ds. needs_quotes default_writer ds ≡ false) (λ n l. digit_plain n) (λ n ds l h. both_plain ds ((48 + n % 10) ∷ []) h (digit_plain (n % 10)))

-- nor do zeros
zeros_plain : (k : ℕ) → needs_quotes default_writer (replicate k 48) ≡ false
zeros_plain zero = refl
zeros_plain (suc k) = zeros_plain k

-- if a text needs none, neither do its two parts
parts_plain : (front back : List ℕ) → needs_quotes default_writer (front ++ back) ≡ false → (needs_quotes default_writer front ≡ false) × (needs_quotes default_writer back ≡ false)
parts_plain front back h = or_parts (needs_quotes default_writer front) (needs_quotes default_writer back) (sym (list_any-append (needs_byte default_writer) front back) ∙ h)

-- nor do digits with a point between them
point_plain : (places : ℕ) (ds : List ℕ) → needs_quotes default_writer ds ≡ false → needs_quotes default_writer (with_point places ds) ≡ false
point_plain places ds h =
    let n = length ds - places in
    let both = parts_plain (take n ds) (drop n ds) (ap (needs_quotes default_writer) (take-append-drop n ds) ∙ h) in
    both_plain (take n ds ++ codes ".") (drop n ds) (both_plain (take n ds) (codes ".") both.0 refl) both.1

-- nor with a point or an exponent according to the scale
scaled_plain : (scale : ℤ) (ds : List ℕ) → needs_quotes default_writer ds ≡ false → needs_quotes default_writer (scaled scale ds) ≡ false
scaled_plain (pos zero) ds h = h
scaled_plain (pos (suc k)) ds h =
    point_plain (suc k) (zero_filled (suc k + 1) ds) (both_plain (replicate (suc k + 1 - length ds) 48) ds (zeros_plain (suc k + 1 - length ds)) h)
scaled_plain (negsuc k) ds h = both_plain (ds ++ codes "e") (numeral (suc k)) (both_plain ds (codes "e") h refl) (numeral_plain (suc k))

-- nor does a sign
sign_plain : (negative : Bool) → needs_quotes default_writer (sign_text negative) ≡ false
sign_plain true = refl
sign_plain false = refl

-- no decimal needs any
pub decimal_plain : (scale number : ℤ) → needs_quotes default_writer (decimal_text scale number) ≡ false
decimal_plain scale number =
    let digits = numeral (unsigned_abs number) in
    both_plain (sign_text (is_negative number)) (scaled scale digits) (sign_plain (is_negative number)) (scaled_plain scale digits (numeral_plain (unsigned_abs number)))

-- ---- the text of a whole number by its sign and its magnitude

pub appends_decimal : (scale number from : ℤ) (negative : Bool) (magnitude : ℕ) (old new : List ℕ) → from ≡ scale → is_negative number ≡ negative → unsigned_abs number ≡ magnitude
    → new ≡ old ++ (sign_text negative ++ scaled from (numeral magnitude)) → Appends (IsPlain (λ t. t ≡ decimal_text scale number)) old new
appends_decimal scale number from negative magnitude old new read sign size is =
    let same : sign_text negative ++ scaled from (numeral magnitude) ≡ decimal_text scale number = λ i. sign_text (sym sign i) ++ scaled (read i) (numeral (sym size i)) in
    (decimal_text scale number, (refl, decimal_plain scale number), is ∙ ap (λ t. old ++ t) same)

-- digits, then the number of zeros that follow them
pub exponent_text : (scale number : ℤ) (places : ℕ) (old digits one two new : List ℕ) → int_lt (pos 0) scale ≡ false → (of_z w8 scale ≡ 0 → ⊥) → places ≡ unsigned_abs scale → number ≡ pos places → places < 10 ^ 64
    → one ≡ old ++ digits → two ≡ one ++ codes "e" → new ≡ two ++ signed_decimal number → new ≡ old ++ scaled scale digits
exponent_text (pos zero) number places old digits one two new low some size is fits first second third = absurd (some refl)
exponent_text (pos (suc k)) number places old digits one two new low some size is fits first second third = absurd (omega (arith, ltb-false 0 (suc k) low))
exponent_text (negsuc k) number places old digits one two new low some size is fits first second third =
    let zeros : signed_decimal number ≡ numeral (suc k) = ap signed_decimal is ∙ decimal_numeral places fits ∙ ap numeral size in
    third ∙ (λ i. (second ∙ ap (λ t. t ++ codes "e") first) i ++ zeros i)
    ∙ ap (λ t. t ++ numeral (suc k)) (append_assoc old digits (codes "e")) ∙ append_assoc old (digits ++ codes "e") (numeral (suc k))
