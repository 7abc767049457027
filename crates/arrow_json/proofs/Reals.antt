-- The JSON of a floating-point number by whether it is finite.
use Rattle.std.proofs.Common.{OnOk, Result, ◌≡◌, ◌∷◌, [], ◌++◌, ℕ, List, true, false, Some, refl, sym, ap, subst}
use Rattle.std.proofs.lemmas.Result.{on_ok_weaker}
use Rattle.std.specs.Bool.{MatchBool}
use Rattle.std.specs.Float.{Float, Format, float_is_finite}
use Rattle.std.specs.Float.Parse.{parse_float}
use Rattle.json.specs.Json.{number, string}
use Rattle.json.specs.Token as tokens
use Rattle.json.specs.Written.{Written}
use Rattle.json.proofs.Printed.Floats.{IsNumber-plain}
use Rattle.ryu.specs.Plain.{IsPlainNumber, word_of}
use Rattle.arrow_json.specs.Scalars.{IsFloatJson, ReadsBack}
use Rattle.arrow_json.specs.Written.{Adds}

-- a finite number was written as a number
pub finite_added : (format : Format) (x : Float) (old new : Written) → float_is_finite x ≡ true
    → ((s : List ℕ) × (new.tokens ≡ old.tokens ++ tokens.number s ∷ []) × IsPlainNumber s × (parse_float format s ≡ Some x)) → new.before ≡ old.before → Adds (IsFloatJson format x) old new
finite_added format x old new finite text before =
    let back : ReadsBack format x (number text.0) = (text.0, refl, IsNumber-plain text.0 text.2, text.3) in
    (number text.0, subst (λ b. MatchBool b (ReadsBack format x (number text.0)) (number text.0 ≡ string (word_of x))) (sym finite) back, text.1, before)

-- any other number as a string
pub word_added : (format : Format) (x : Float) (old new : Written) (word : List ℕ) → float_is_finite x ≡ false → word ≡ word_of x
    → new.tokens ≡ old.tokens ++ tokens.string word ∷ [] → new.before ≡ old.before → Adds (IsFloatJson format x) old new
word_added format x old new word infinite is put before =
    let text : string word ≡ string (word_of x) = ap string is in
    (string word, subst (λ b. MatchBool b (ReadsBack format x (string word)) (string word ≡ string (word_of x))) (sym infinite) text, put, before)

-- the same if the writing may have failed
pub finite_written : {E : Type 0} (r : Result (Unit {0}) E) (format : Format) (x : Float) (old new : Written) → float_is_finite x ≡ true
    → OnOk r ((s : List ℕ) × (new.tokens ≡ old.tokens ++ tokens.number s ∷ []) × IsPlainNumber s × (parse_float format s ≡ Some x)) → new.before ≡ old.before → OnOk r (Adds (IsFloatJson format x) old new)
finite_written r format x old new finite text before = on_ok_weaker r (λ t. finite_added format x old new finite t before) text

pub word_written : {E : Type 0} (r : Result (Unit {0}) E) (format : Format) (x : Float) (old new : Written) (word : List ℕ) → float_is_finite x ≡ false → word ≡ word_of x
    → OnOk r (new.tokens ≡ old.tokens ++ tokens.string word ∷ []) → new.before ≡ old.before → OnOk r (Adds (IsFloatJson format x) old new)
word_written r format x old new word infinite is put before = on_ok_weaker r (λ t. word_added format x old new word infinite is t before) put
