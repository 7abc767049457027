-- Numbers and byte strings need no quotes.
use Rattle.std.proofs.Common.{◌≡◌, ◌<◌, ◌+◌, ◌/◌, ◌%◌, ◌^◌, ◌∷◌, [], ℕ, ℤ, zero, pos, negsuc, suc, false, List, get_or, nat_abs, int_le, int_lt, true, refl, sym, arith}
use Rattle.std.proofs.lemmas.Bool.{ltb-true, ne_eqb, or_parts}
use Rattle.std.proofs.lemmas.Fmt.{decimal_by_steps_wide, decimal_digit}
use Rattle.std.proofs.lemmas.List.Folds.{list_any-append}
use Rattle.std.specs.Fmt.{decimal, signed_decimal}
use Rattle.std.specs.Prelude.{FitsSigned}
use Rattle.std.specs.Int.{w128}
use Rattle.hex.specs.Hex.{encode_lower, encode_with, lower_digits}
use Rattle.csv.specs.Writing.{default_writer, needs_byte, needs_quotes}

-- a byte above the comma needs none
pub byte_plain : (b : ℕ) → 44 < b → needs_byte default_writer b ≡ false
byte_plain b h = rw (ne_eqb b 44 (λ e. omega (arith, e, h)), ne_eqb b 34 (λ e. omega (arith, e, h)), ne_eqb b 13 (λ e. omega (arith, e, h)), ne_eqb b 10 (λ e. omega (arith, e, h))) refl

-- no natural number needs any
pub digits_plain : (n : ℕ) → n < 10 ^ 64 → needs_quotes default_writer (decimal n) ≡ false
digits_plain n h =
    decimal_by_steps_wide (λ k ds. needs_quotes default_writer ds ≡ false) (λ k l. rw (byte_plain (48 + k) (omega arith)) refl)
    (λ k ds l e. rw (list_any-append (needs_byte default_writer) ds ((48 + k % 10) ∷ []), e, byte_plain (48 + k % 10) (omega arith)) refl) n h

-- no number with a sign needs any
pub number_plain : (z : ℤ) → FitsSigned w128 z → needs_quotes default_writer (signed_decimal z) ≡ false
number_plain (pos n) h = let fits = h.sfits in digits_plain n (omega arith)
number_plain (negsuc n) h = let fits = h.sfits in rw (digits_plain (suc n) (omega arith)) refl

-- the text of a one-digit number is that digit
pub one_digit : (z : ℤ) → int_le (pos 0) z ≡ true → int_lt z (pos 10) ≡ true → (48 + nat_abs z) ∷ [] ≡ signed_decimal z
one_digit (pos n) low high = sym (decimal_digit n (ltb-true n 10 high))
one_digit (negsuc n) low high = absurd (cc low)

-- if no byte needs quotes, the byte at an index does not
plain_at : (bytes : List ℕ) (k : ℕ) → needs_quotes default_writer bytes ≡ false → needs_byte default_writer (get_or bytes k 0) ≡ false
plain_at [] k h = refl
plain_at (b ∷ bytes) zero h = (or_parts _ _ h).0
plain_at (b ∷ bytes) (suc k) h = plain_at bytes k (or_parts (needs_byte default_writer b) _ h).1

-- no byte string needs any
pub bytes_plain : (bytes : List ℕ) → needs_quotes default_writer (encode_lower bytes) ≡ false
unfolding encode_with
bytes_plain [] = refl
bytes_plain (b ∷ bytes) = rw (plain_at lower_digits (b / 16) refl, plain_at lower_digits (b % 16) refl) (bytes_plain bytes)
