-- Ids, each once, when one more id is added.
use Rattle.std.proofs.Common.{◌≡◌, ℤ, Bool, true, false, not, cond, List, [], ◌∷◌, ◌++◌, filter, ap, ◌∙◌, refl}
use Rattle.std.specs.List.{list_any}
use Rattle.std.specs.Ordering.{int_eq}
use Rattle.std.proofs.lemmas.Bool.{or_parts, or_cases, cases_Bool, both_ways}
use Rattle.std.proofs.lemmas.Cmp.{int_eq_equiv}
use Rattle.std.proofs.lemmas.List.{append-nil}
use Rattle.std.proofs.lemmas.List.Elements.{filter-append}
use Rattle.std.proofs.Common.{⊎_elim}
use Rattle.arrow_types.specs.Schema.{each_once}

-- whether the number is among these
abbrev pub is_among : ℤ → List ℤ → Bool
is_among x ys = list_any (λ y. int_eq y x) ys

-- whether a number is kept when y is left out
abbrev is_other : ℤ → ℤ → Bool
is_other y z = not (int_eq z y)

-- appending a number that is left out
left_out : (y x : ℤ) (zs : List ℤ) → int_eq y x ≡ true → filter (is_other y) (zs ++ x ∷ []) ≡ filter (is_other y) zs
left_out y x zs same =
    filter-append (is_other y) zs (x ∷ [])
    ∙ ap (λ b. filter (is_other y) zs ++ cond (not b) (x ∷ []) []) (int_eq_equiv.symm x y ∙ same)
    ∙ append-nil (filter (is_other y) zs)

-- appending a number that is kept
left_in : (y x : ℤ) (zs : List ℤ) → int_eq y x ≡ false → filter (is_other y) (zs ++ x ∷ []) ≡ filter (is_other y) zs ++ x ∷ []
left_in y x zs apart =
    filter-append (is_other y) zs (x ∷ [])
    ∙ ap (λ b. filter (is_other y) zs ++ cond (not b) (x ∷ []) []) (int_eq_equiv.symm x y ∙ apart)

-- a number that is new comes last
pub each_once_new : (ys : List ℤ) (x : ℤ) → is_among x ys ≡ false → each_once (ys ++ x ∷ []) ≡ each_once ys ++ x ∷ []
each_once_new [] x h = refl
each_once_new (y ∷ ys) x h =
    let parts = or_parts (int_eq y x) (is_among x ys) h in
    ap (λ zs. y ∷ filter (is_other y) zs) (each_once_new ys x parts.1) ∙ ap (λ zs. y ∷ zs) (left_in y x (each_once ys) parts.0)

-- a number that is there already changes nothing
pub each_once_old : (ys : List ℤ) (x : ℤ) → is_among x ys ≡ true → each_once (ys ++ x ∷ []) ≡ each_once ys
each_once_old [] x h = cc
each_once_old (y ∷ ys) x h =
    ⊎_elim
    (λ among. ap (λ zs. y ∷ filter (is_other y) zs) (each_once_old ys x among))
    (λ new. ap (λ zs. y ∷ filter (is_other y) zs) (each_once_new ys x new)
    ∙ ap (λ zs. y ∷ zs) (left_out y x (each_once ys)
    (⊎_elim (λ same. same) (λ among. absurd (both_ways (is_among x ys) new among)) (or_cases (int_eq y x) (is_among x ys) h))))
    (cases_Bool (is_among x ys))
