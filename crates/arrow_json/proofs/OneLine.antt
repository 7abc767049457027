-- No line feed is in the text of tokens: strings have it escaped, numbers have none.
use Rattle.std.proofs.Common.{◌≡◌, ◌≤◌, ◌+◌, ◌/◌, ◌%◌, ℕ, suc, Bool, true, false, cond, ◌||◌, ◌==◌, nat_lt, List, [], ◌∷◌, ◌++◌, drop, Option, None, Some, option_and_then, inl, inr, ◌⊎◌, refl, sym, ap, ap₂, ◌∙◌, subst, arith, ltb-false}
use Rattle.std.proofs.lemmas.Bool.{and_parts, eqb-true, leb-true, ne_eqb, or_cases}
use Rattle.std.proofs.lemmas.List.Folds.{list_any-append}
use Rattle.std.specs.Char.{digit_char, is_ascii_digit}
use Rattle.std.specs.List.{prefix_len}
use Rattle.json.specs.Print.{ArePrintable, IsNumber, IsPrintable, ends, escape, escape_byte, escape_letter, print_from, quoted, separator, token_text}
use Rattle.json.specs.Token.{Token, begin_object, end_object, begin_array, end_array, key, string, number, boolean, null, bad}
use Rattle.json.specs.Tree.{json_tokens}
use Rattle.json.specs.Word.{after_digits, after_exponent, after_fraction, after_minus, after_number, after_sign, after_whole, head}
use Rattle.json.proofs.Printed.Trees.{ArePrintable-json_tokens}
use Rattle.arrow_json.specs.Laws.{RowIsOneLine, has_line_feed}
use Rattle.arrow_json.proofs.ReadBack.{row_reads}

-- ---- numbers

-- a byte that is not a line feed changes nothing
kept : (x : ℕ) (xs : List ℕ) → (x == 10) ≡ false → has_line_feed (x ∷ xs) ≡ has_line_feed xs
kept x xs other = ap (λ b. b || has_line_feed xs) other

digit_other : (x : ℕ) → is_ascii_digit x ≡ true → (x == 10) ≡ false
digit_other x h = let low = leb-true 48 x (and_parts _ _ h).0 in ne_eqb x 10 (λ e. omega (arith, e, low))

digit_kept : (x : ℕ) (xs : List ℕ) (n : ℕ) (b : Bool) → is_ascii_digit x ≡ b → has_line_feed (drop n xs) ≡ has_line_feed xs → has_line_feed (drop (cond b (1 + n) 0) (x ∷ xs)) ≡ has_line_feed (x ∷ xs)
digit_kept x xs n true e h =
    let step : 1 + n ≡ suc n = omega arith in
    ap (λ k. has_line_feed (drop k (x ∷ xs))) step ∙ h ∙ sym (kept x xs (digit_other x e))
digit_kept x xs n false e h = refl

digits_kept : (t : List ℕ) → has_line_feed (drop (prefix_len is_ascii_digit t) t) ≡ has_line_feed t
digits_kept [] = refl
digits_kept (x ∷ xs) = digit_kept x xs (prefix_len is_ascii_digit xs) (is_ascii_digit x) refl (digits_kept xs)

one_kept : (c : ℕ) (t : List ℕ) → (c == 10) ≡ false → (head t == c) ≡ true → has_line_feed (drop 1 t) ≡ has_line_feed t
one_kept c [] other e = refl
one_kept c (x ∷ xs) other e = sym (kept x xs (ap (λ y. y == 10) (eqb-true x c e) ∙ other))

either_kept : (a b : ℕ) (t : List ℕ) → (a == 10) ≡ false → (b == 10) ≡ false → ((head t == a) ≡ true) ⊎ ((head t == b) ≡ true) → has_line_feed (drop 1 t) ≡ has_line_feed t
either_kept a b t p q (inl e) = one_kept a t p e
either_kept a b t p q (inr e) = one_kept b t q e

-- the bytes that a part of the grammar leaves have a line feed exactly if the text before it had one
abbrev Keeps : List ℕ → Option (List ℕ) → Type 0
Keeps t None = Unit {0}
Keeps t (Some r) = has_line_feed r ≡ has_line_feed t

moved : (t u : List ℕ) (o : Option (List ℕ)) → has_line_feed u ≡ has_line_feed t → Keeps u o → Keeps t o
moved t u None e h = tt
moved t u (Some r) e h = h ∙ e

then_keeps : (t : List ℕ) (o : Option (List ℕ)) (f : List ℕ → Option (List ℕ)) → Keeps t o → ((u : List ℕ) → Keeps u (f u)) → Keeps t (option_and_then f o)
then_keeps t None f h g = tt
then_keeps t (Some r) f h g = moved t r (f r) h (g r)

-- one of two branches
by_test : (t : List ℕ) (b : Bool) (x y : Option (List ℕ)) → (b ≡ true → Keeps t x) → Keeps t y → Keeps t (cond b x y)
by_test t true x y f g = f refl
by_test t false x y f g = g

optional : (t : List ℕ) (b : Bool) → (b ≡ true → has_line_feed (drop 1 t) ≡ has_line_feed t) → has_line_feed (cond b (drop 1 t) t) ≡ has_line_feed t
optional t true f = f refl
optional t false f = refl

digits : (t : List ℕ) → Keeps t (after_digits t)
digits t = by_test t (prefix_len is_ascii_digit t == 0) None (Some (drop (prefix_len is_ascii_digit t) t)) (λ e. tt) (digits_kept t)

whole : (t : List ℕ) → Keeps t (after_whole t)
whole t = by_test t (head t == 48) (Some (drop 1 t)) (after_digits t) (one_kept 48 t refl) (digits t)

fraction : (t : List ℕ) → Keeps t (after_fraction t)
fraction t = by_test t (head t == 46) (after_digits (drop 1 t)) (Some t) (λ e. moved t (drop 1 t) (after_digits (drop 1 t)) (one_kept 46 t refl e) (digits (drop 1 t))) refl

signed : (t : List ℕ) → Keeps t (after_digits (after_sign t))
signed t = moved t (after_sign t) (after_digits (after_sign t)) (optional t ((head t == 45) || (head t == 43)) (λ e. either_kept 45 43 t refl refl (or_cases _ _ e))) (digits (after_sign t))

exponent : (t : List ℕ) → Keeps t (after_exponent t)
exponent t =
    by_test t ((head t == 101) || (head t == 69)) (after_digits (after_sign (drop 1 t))) (Some t)
    (λ e. moved t (drop 1 t) (after_digits (after_sign (drop 1 t))) (either_kept 101 69 t refl refl (or_cases _ _ e)) (signed (drop 1 t))) refl

whole_number : (t : List ℕ) → Keeps t (after_number t)
unfolding after_number
whole_number t =
    then_keeps t _ after_exponent
    (then_keeps t _ after_fraction (moved t (after_minus t) (after_whole (after_minus t)) (optional t (head t == 45) (one_kept 45 t refl)) (whole (after_minus t))) fraction) exponent

number_clean : (s : List ℕ) → IsNumber s → has_line_feed s ≡ false
number_clean s h = sym (subst (Keeps s) h (whole_number s))

-- ---- strings

both_clean : (front back : List ℕ) → has_line_feed front ≡ false → has_line_feed back ≡ false → has_line_feed (front ++ back) ≡ false
both_clean front back f b = list_any-append (λ x. x == 10) front back ∙ ap₂ (λ p q. p || q) f b

letters : (x : ℕ) (a b c d e : Bool) → (cond a 98 (cond b 102 (cond c 110 (cond d 114 (cond e 116 0)))) == 10) ≡ false
letters x true b c d e = refl
letters x false true c d e = refl
letters x false false true d e = refl
letters x false false false true e = refl
letters x false false false false true = refl
letters x false false false false false = refl

letter_clean : (x : ℕ) → (escape_letter x == 10) ≡ false
letter_clean x = by ((x == 34) || (x == 92)) refl
  where
    rest : ℕ
    rest = cond (x == 8) 98 (cond (x == 12) 102 (cond (x == 10) 110 (cond (x == 13) 114 (cond (x == 9) 116 0))))

    own : ((x == 34) ≡ true) ⊎ ((x == 92) ≡ true) → (x == 10) ≡ false
    own (inl e) = ap (λ y. y == 10) (eqb-true x 34 e)
    own (inr e) = ap (λ y. y == 10) (eqb-true x 92 e)

    by : (b : Bool) → ((x == 34) || (x == 92)) ≡ b → (cond b x (cond (x == 8) 98 (cond (x == 12) 102 (cond (x == 10) 110 (cond (x == 13) 114 (cond (x == 9) 116 0))))) == 10) ≡ false
    by true e = own (or_cases _ _ e)
    by false e = letters x (x == 8) (x == 12) (x == 10) (x == 13) (x == 9)

digit_char_clean : (d : ℕ) → (digit_char d == 10) ≡ false
digit_char_clean d = let low : 48 ≤ digit_char d = grind arith in ne_eqb (digit_char d) 10 (λ e. omega (arith, e, low))

byte_clean : (x : ℕ) → has_line_feed (escape_byte x) ≡ false
unfolding escape_byte
byte_clean x = by (nat_lt 0 (escape_letter x)) (nat_lt x 32) refl
  where
    by : (b c : Bool) → nat_lt x 32 ≡ c → has_line_feed (cond b (92 ∷ escape_letter x ∷ []) (cond c (92 ∷ 117 ∷ 48 ∷ 48 ∷ digit_char (x / 16) ∷ digit_char (x % 16) ∷ []) (x ∷ []))) ≡ false
    by true c e = ap (λ b. b || false) (letter_clean x)
    by false true e = ap₂ (λ p q. p || (q || false)) (digit_char_clean (x / 16)) (digit_char_clean (x % 16))
    by false false e = ap (λ b. b || false) (ne_eqb x 10 (λ q. omega (arith, q, ltb-false x 32 e)))

escape_clean : (s : List ℕ) → has_line_feed (escape s) ≡ false
escape_clean [] = refl
escape_clean (x ∷ xs) = both_clean (escape_byte x) (escape xs) (byte_clean x) (escape_clean xs)

quoted_clean : (s : List ℕ) → has_line_feed (quoted s) ≡ false
quoted_clean s = both_clean (escape s) (34 ∷ []) (escape_clean s) refl

-- ---- tokens

token_clean : (t : Token) → IsPrintable t → has_line_feed (token_text t) ≡ false
token_clean begin_object h = refl
token_clean end_object h = refl
token_clean begin_array h = refl
token_clean end_array h = refl
token_clean (key s) h = both_clean (quoted s) (58 ∷ []) (quoted_clean s) refl
token_clean (string s) h = quoted_clean s
token_clean (number s) h = number_clean s h
token_clean (boolean true) h = refl
token_clean (boolean false) h = refl
token_clean null h = refl
token_clean bad h = absurd h

comma_clean : (b : Bool) → has_line_feed (cond b (44 ∷ []) []) ≡ false
comma_clean true = refl
comma_clean false = refl

print_clean : (after_value : Bool) (ts : List Token) → ArePrintable ts → has_line_feed (print_from after_value ts) ≡ false
unfolding print_from ArePrintable
print_clean after_value [] h = refl
print_clean after_value (t ∷ ts) h =
    both_clean (separator after_value t) (token_text t ++ print_from (ends t) ts) (comma_clean _)
    (both_clean (token_text t) (print_from (ends t) ts) (token_clean t h.0) (print_clean (ends t) ts h.1))

-- the text of a row is one line
pub row_is_one_line : RowIsOneLine
row_is_one_line batch i json table h = print_clean false (json_tokens json) (ArePrintable-json_tokens json (row_reads batch i json table h).0)
