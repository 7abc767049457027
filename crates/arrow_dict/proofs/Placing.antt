-- What is listed after a dictionary was placed.
use Rattle.std.proofs.Common.{◌≡◌, ◌≢◌, ◌<ℤ◌, ℤ, cond, List, [], ◌∷◌, Some, Ordering, Less, Equal, Greater, refl, sym, ap, ◌∙◌, subst, arith}
use Rattle.std.specs.List.{AllByRecursion}
use Rattle.std.specs.Ordering.{int_cmp, int_eq, match_ordering}
use Rattle.std.proofs.lemmas.Cmp.{by_ranked, int_ranked}
use Rattle.std.proofs.lemmas.Int.{ints}
use Rattle.arrow_data.specs.Column.{ValueList}
use Rattle.arrow_data.specs.Listed.{listed}
use Rattle.arrow_data.proofs.Listing.{listed_first, listed_next}
use Rattle.arrow_dict.specs.Dictionaries.{IsRising, placed}
use Rattle.arrow_dict.specs.Laws.{PlacedHere, PlacedElsewhere, StaysRising}

-- an id is less than another one, equal to it, or greater
pub by_order : {G : Type 0} (x y : ℤ) → (int_cmp x y ≡ Less → x <ℤ y → G) → (int_cmp x y ≡ Equal → x ≡ y → G) → (int_cmp x y ≡ Greater → y <ℤ x → G) → G
by_order x y less equal greater = by_ranked (x <ℤ y) (x ≡ y) (y <ℤ x) (int_cmp x y) (int_ranked x y (int_cmp x y) refl) less equal greater

-- a lesser id is a different one
pub lesser_other : (x y : ℤ) → x <ℤ y → x ≢ y
lesser_other x y less same = omega (arith, ints)

-- what is placed before, in place of, and after the first entry
placed_by : (id : ℤ) (d : ValueList) (e : ℤ × ValueList) (es : List (ℤ × ValueList)) (o : Ordering) → int_cmp id e.0 ≡ o → placed id d (e ∷ es) ≡ match_ordering o ((id, d) ∷ e ∷ es) ((id, d) ∷ es) (e ∷ placed id d es)
placed_by id d e es o is = ap (λ p. match_ordering p ((id, d) ∷ e ∷ es) ((id, d) ∷ es) (e ∷ placed id d es)) is

-- a lesser id goes before the first entry
pub placed_before : (id : ℤ) (d : ValueList) (e : ℤ × ValueList) (es : List (ℤ × ValueList)) → id <ℤ e.0 → placed id d (e ∷ es) ≡ (id, d) ∷ e ∷ es
placed_before id d e es less = by_order id e.0 (λ is h. placed_by id d e es Less is) (λ is h. absurd (omega (arith, ints))) (λ is h. absurd (omega (arith, ints)))

-- the same id replaces the first entry
pub placed_over : (id : ℤ) (d : ValueList) (e : ℤ × ValueList) (es : List (ℤ × ValueList)) → id ≡ e.0 → placed id d (e ∷ es) ≡ (id, d) ∷ es
placed_over id d e es same = by_order id e.0 (λ is h. absurd (omega (arith, ints))) (λ is h. placed_by id d e es Equal is) (λ is h. absurd (omega (arith, ints)))

-- a greater id is placed among the entries after the first
pub placed_after : (id : ℤ) (d : ValueList) (e : ℤ × ValueList) (es : List (ℤ × ValueList)) → e.0 <ℤ id → placed id d (e ∷ es) ≡ e ∷ placed id d es
placed_after id d e es greater = by_order id e.0 (λ is h. absurd (omega (arith, ints))) (λ is h. absurd (omega (arith, ints))) (λ is h. placed_by id d e es Greater is)

-- what is placed for an id is what is listed for it
pub listed_here : PlacedHere
listed_here [] id d = listed_first (id, d) [] id refl
listed_here (e ∷ es) id d =
    by_order id e.0
    (λ is less. ap (λ ds. listed ds id) (placed_before id d e es less) ∙ listed_first (id, d) (e ∷ es) id refl)
    (λ is same. ap (λ ds. listed ds id) (placed_over id d e es same) ∙ listed_first (id, d) es id refl)
    (λ is greater. ap (λ ds. listed ds id) (placed_after id d e es greater) ∙ listed_next e (placed id d es) id (lesser_other e.0 id greater) ∙ listed_here es id d)

-- an entry that is the same in two lists
listed_both : (e : ℤ × ValueList) (ds es : List (ℤ × ValueList)) (id : ℤ) → listed ds id ≡ listed es id → listed (e ∷ ds) id ≡ listed (e ∷ es) id
listed_both e ds es id same = ap (λ o. cond (int_eq e.0 id) (Some e.1) o) same

-- what is listed for other ids is unchanged
pub listed_elsewhere : PlacedElsewhere
listed_elsewhere [] id other d differs = listed_next (id, d) [] other (λ same. differs (sym same))
listed_elsewhere (e ∷ es) id other d differs =
    let skipped : id ≢ other = λ same. differs (sym same) in
    by_order id e.0
    (λ is less. ap (λ ds. listed ds other) (placed_before id d e es less) ∙ listed_next (id, d) (e ∷ es) other skipped)
    (λ is same. ap (λ ds. listed ds other) (placed_over id d e es same) ∙ listed_next (id, d) es other skipped
    ∙ sym (listed_next e es other (λ is. skipped (same ∙ is))))
    (λ is greater. ap (λ ds. listed ds other) (placed_after id d e es greater) ∙ listed_both e (placed id d es) es other (listed_elsewhere es id other d differs))

-- what holds of all entries after
all_greater : (x y : ℤ) (es : List (ℤ × ValueList)) → x <ℤ y → AllByRecursion (λ (f : ℤ × ValueList). y <ℤ f.0) es → AllByRecursion (λ (f : ℤ × ValueList). x <ℤ f.0) es
all_greater x y [] less all = tt
all_greater x y (e ∷ es) less all = (let here : y <ℤ e.0 = all.0 in omega (arith, ints), all_greater x y es less all.1)

-- an id that is less than all ids and than the new one is less than all with the new one
all_placed : (x id : ℤ) (d : ValueList) (es : List (ℤ × ValueList)) → x <ℤ id → AllByRecursion (λ (f : ℤ × ValueList). x <ℤ f.0) es → AllByRecursion (λ (f : ℤ × ValueList). x <ℤ f.0) (placed id d es)
all_placed x id d [] less all = (less, tt)
all_placed x id d (e ∷ es) less all =
    let P = λ (ds : List (ℤ × ValueList)). AllByRecursion (λ (f : ℤ × ValueList). x <ℤ f.0) ds in
    by_order id e.0
    (λ is before. subst P (sym (placed_before id d e es before)) (less, all))
    (λ is same. subst P (sym (placed_over id d e es same)) (less, all.1))
    (λ is after. subst P (sym (placed_after id d e es after)) (all.0, all_placed x id d es less all.1))

-- rising ids still rise
pub rising_placed : StaysRising
rising_placed [] id d rising = (tt, tt)
rising_placed (e ∷ es) id d rising =
    by_order id e.0
    (λ is before. subst IsRising (sym (placed_before id d e es before)) ((before, all_greater id e.0 es before rising.0), rising))
    (λ is same. subst IsRising (sym (placed_over id d e es same)) (subst (λ x. AllByRecursion (λ (f : ℤ × ValueList). x <ℤ f.0) es) (sym same) rising.0, rising.1))
    (λ is after. subst IsRising (sym (placed_after id d e es after)) (all_placed e.0 id d es after rising.0, rising_placed es id d rising.1))
