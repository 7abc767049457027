-- The texts of floating-point numbers need no quotes.
use Rattle.std.proofs.Common.{◌≡◌, ◌∷◌, ◌++◌, [], ℕ, List, Bool, true, false, refl, sym, subst, arith, if◌then◌else◌}
use Rattle.std.proofs.lemmas.List.Folds.{list_any-append}
use Rattle.std.proofs.lemmas.Str.Parse.{digit_from_value}
use Rattle.std.specs.Prelude.{IsTrue, IsFalse}
use Rattle.std.specs.Float.{Float, float_is_finite}
use Rattle.std.specs.Float.Numeral.{Parts, exponent_text, text_of}
use Rattle.std.specs.Fmt.{sign_text}
use Rattle.std.specs.Str.Parse.{AllDigits}
use Rattle.csv.specs.Writing.{default_writer, needs_byte, needs_quotes}
use Rattle.ryu.specs.Plain.{IsPlain, IsPlainNumber, word_of}
use lib.Ieee.{nan, inf, fin}
use Rattle.arrow_csv.proofs.Digits.{byte_plain}

-- two texts that need none need none together
pub both_plain : (front back : List ℕ) → needs_quotes default_writer front ≡ false → needs_quotes default_writer back ≡ false → needs_quotes default_writer (front ++ back) ≡ false
both_plain front back f b = rw (list_any-append (needs_byte default_writer) front back, f, b) refl

-- digits need none
all_plain : (ds : List ℕ) → AllDigits 10 ds → needs_quotes default_writer ds ≡ false
all_plain [] h = refl
all_plain (d ∷ ds) h = rw (byte_plain d (omega (arith, digit_from_value d h.0)), all_plain ds h.1) refl

-- nor does a sign
sign_plain : (negative : Bool) → needs_quotes default_writer (sign_text negative) ≡ false
sign_plain true = refl
sign_plain false = refl

exponent_plain : (negative : Bool) (ds : List ℕ) → AllDigits 10 ds → needs_quotes default_writer (exponent_text negative ds) ≡ false
exponent_plain negative [] h = refl
exponent_plain negative (d ∷ ds) h = both_plain (sign_text negative) (d ∷ ds) (sign_plain negative) (all_plain (d ∷ ds) h)

fraction_plain : (point : Bool) (ds : List ℕ) → AllDigits 10 ds → needs_quotes default_writer (if point then 46 ∷ ds else []) ≡ false
fraction_plain true ds h = all_plain ds h
fraction_plain false ds h = refl

-- a numeral needs none
numeral_plain : (p : Parts) → IsPlain p → needs_quotes default_writer (text_of p) ≡ false
numeral_plain p h =
    let w = h.well_formed in
    let fraction = if p.point then 46 ∷ p.fraction else [] in
    let exponent = exponent_text p.exponent_negative p.exponent in
    both_plain p.whole (fraction ++ exponent) (all_plain p.whole w.whole_digits)
    (both_plain fraction exponent (fraction_plain p.point p.fraction w.fraction_digits) (exponent_plain p.exponent_negative p.exponent w.exponent_digits))

number_plain : (text : List ℕ) → IsPlainNumber text → needs_quotes default_writer text ≡ false
number_plain text h =
    subst (λ t. needs_quotes default_writer t ≡ false) (sym h.2) (both_plain (sign_text h.0) (text_of h.1) (sign_plain h.0) (numeral_plain h.1 h.3))

-- nor does the word for a number that is not finite
word_plain : (x : Float) → needs_quotes default_writer (word_of x) ≡ false
word_plain nan = refl
word_plain (inf true) = refl
word_plain (inf false) = refl
word_plain (fin s m e) = refl

-- no text of a floating-point number needs any
pub float_plain : (x : Float) (text : List ℕ) → (IsTrue (float_is_finite x) → IsPlainNumber text) → (IsFalse (float_is_finite x) → text ≡ word_of x) → needs_quotes default_writer text ≡ false
float_plain x text finite other = by (float_is_finite x) finite other
  where
    by : (b : Bool) → (IsTrue b → IsPlainNumber text) → (IsFalse b → text ≡ word_of x) → needs_quotes default_writer text ≡ false
    by true f g = number_plain text (f refl)
    by false f g = subst (λ t. needs_quotes default_writer t ≡ false) (sym (g refl)) (word_plain x)
