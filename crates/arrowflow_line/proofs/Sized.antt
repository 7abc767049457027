-- Sizes with units: a text has one number and one unit.
use Rattle.std.proofs.Common.{◌≡◌, ℕ, ◌*◌, ◌<◌, ◌≤◌, inl, inr, List, [], ◌∷◌, sym, ap₂, subst, ◌∙◌, arith, rules, mul-le-mul_left}
use Rattle.std.specs.Prelude.{⊤}
use Rattle.std.proofs.lemmas.List.{append_cancel_right}
use Rattle.std.specs.Str.Parse.{IsNumeral, digits_value, without_leading_plus}
use Rattle.arrowflow_line.specs.Sizes.{IsPartedBy, LacksSize, units}

-- a text is split into a number and a unit in only one way
parted_once : (us : List (List ℕ × ℕ)) (t n n' : List ℕ) (b b' : ℕ) → IsPartedBy us t n b → IsPartedBy us t n' b' → (n ≡ n') × (b ≡ b')
parted_once [] t n n' b b' x y = (x.0 ∙ sym y.0, x.1 ∙ sym y.1)
parted_once (u ∷ us) t n n' b b' (inl x) (inl y) = (append_cancel_right n n' u.0 (sym x.0 ∙ y.0), x.1 ∙ sym y.1)
parted_once (u ∷ us) t n n' b b' (inl x) (inr y) = absurd (y.0 n x.0)
parted_once (u ∷ us) t n n' b b' (inr x) (inl y) = absurd (x.0 n' y.0)
parted_once (u ∷ us) t n n' b b' (inr x) (inr y) = parted_once us t n n' b b' x.1 y.1

-- if the number of a text times its unit is not within the bounds, the text has no size within them
pub lacks : (least most : ℕ) (t number : List ℕ) (bytes : ℕ) → IsPartedBy units t number bytes
    → (IsNumeral 10 (without_leading_plus number) → least ≤ digits_value 10 (without_leading_plus number) * bytes → digits_value 10 (without_leading_plus number) * bytes ≤ most → ⊥)
    → LacksSize least most t
lacks least most t number bytes parted never n (size, low, high) =
    let same = parted_once units t size.number number size.bytes bytes size.parted parted in
    let value : n ≡ digits_value 10 (without_leading_plus number) * bytes = size.is ∙ ap₂ (λ d b. digits_value 10 (without_leading_plus d) * b) same.0 same.1 in
    never (subst (λ d. IsNumeral 10 (without_leading_plus d)) same.0 size.numeral) (subst (λ k. least ≤ k) value low) (subst (λ k. k ≤ most) value high)

-- each of these units has one byte or more
abbrev HaveBytes : List (List ℕ × ℕ) → Type 0
HaveBytes [] = ⊤
HaveBytes (u ∷ us) = (0 < u.1) × HaveBytes us

some_bytes : (us : List (List ℕ × ℕ)) (t number : List ℕ) (bytes : ℕ) → HaveBytes us → IsPartedBy us t number bytes → 0 < bytes
some_bytes [] t number bytes all x = omega (arith, x.1)
some_bytes (u ∷ us) t number bytes all (inl x) = omega (arith, x.1, all.0)
some_bytes (u ∷ us) t number bytes all (inr x) = some_bytes us t number bytes all.1 x.1

-- a unit has one byte or more
pub has_bytes : (t number : List ℕ) (bytes : ℕ) → IsPartedBy units t number bytes → 0 < bytes
has_bytes t number bytes parted = some_bytes units t number bytes (search rules) parted

-- a factor is at most its product with a number above 0
pub short_factor : (a b most end : ℕ) → 0 < b → a * b ≤ most → most < end → a < end
short_factor a b most end some high below =
    omega (arith, mul-le-mul_left a some, high, below)
