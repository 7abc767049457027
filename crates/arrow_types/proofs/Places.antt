-- The first index of a dictionary's id among the encoded fields, when one more field is added.
use Rattle.std.proofs.Common.{◌≡◌, ◌<◌, ℕ, suc, ℤ, Bool, true, false, cond, List, [], ◌∷◌, ◌++◌, length, map, Option, Some, None, option_map, slice_get, ◌||◌, ap, subst, ◌∙◌, sym, refl, ⊎_elim, arith}
use Rattle.std.specs.Ordering.{int_eq}
use Rattle.std.proofs.lemmas.Bool.{cases_Bool, cond-true, cond-false, or_left, or_right}
use Rattle.std.proofs.lemmas.Bool.Decides.{Decides-int_eq}
use Rattle.arrow_types.proofs.Ids.{is_among}
use Rattle.arrow_types.specs.Schema.{DictionaryField}

-- the ids of the fields, in their order
abbrev pub ids_of : List DictionaryField → List ℤ
ids_of ds = map (λ (d : DictionaryField). d.id) ds

-- the first index of an id
abbrev pub place_of : ℤ → List DictionaryField → Option ℕ
place_of q [] = None
place_of q (d ∷ ds) = cond (int_eq d.id q) (Some 0) (option_map suc (place_of q ds))

-- the first of two options that is `Some`
abbrev pub first_some : Option ℕ → Option ℕ → Option ℕ
first_some (Some j) o = Some j
first_some None o = o

-- one step of the search for a first index
later : (b c : Bool) (o : Option ℕ) (n : ℕ) →
    cond b (Some 0) (option_map suc (first_some o (cond c (Some n) None)))
    ≡ first_some (cond b (Some 0) (option_map suc o)) (cond c (Some (suc n)) None)
later true c o n = refl
later false c (Some j) n = refl
later false true None n = refl
later false false None n = refl

-- one more field is the first with its id if no earlier one has the id
pub place_append : (q : ℤ) (ds : List DictionaryField) (d : DictionaryField) →
    place_of q (ds ++ d ∷ []) ≡ first_some (place_of q ds) (cond (int_eq d.id q) (Some (length ds)) None)
place_append q [] d = refl
place_append q (x ∷ xs) d =
    ap (λ o. cond (int_eq x.id q) (Some 0) (option_map suc o)) (place_append q xs d)
    ∙ later (int_eq x.id q) (int_eq d.id q) (place_of q xs) (length xs)

-- with nothing after it, the first option is the result
first_alone : (o : Option ℕ) → first_some o None ≡ o
first_alone (Some j) = refl
first_alone None = refl

-- equal ids have the same first index
place_same : (p q : ℤ) (ds : List DictionaryField) → int_eq p q ≡ true → place_of q ds ≡ place_of p ds
place_same p q ds h = ap (λ x. place_of x ds) (sym ((Decides-int_eq p q).0 h))

-- the first indices with a field whose id is new
pub place_new : (q : ℤ) (ds : List DictionaryField) (d : DictionaryField) → place_of d.id ds ≡ None →
    cond (int_eq d.id q) (Some (length ds)) (place_of q ds) ≡ place_of q (ds ++ d ∷ [])
place_new q ds d h =
    ⊎_elim
    (λ same. cond-true (int_eq d.id q) (Some (length ds)) (place_of q ds) same
    ∙ sym (place_append q ds d ∙ ap (λ o. first_some o (cond (int_eq d.id q) (Some (length ds)) None)) (place_same d.id q ds same ∙ h)
    ∙ cond-true (int_eq d.id q) (Some (length ds)) None same))
    (λ apart. cond-false (int_eq d.id q) (Some (length ds)) (place_of q ds) apart
    ∙ sym (place_append q ds d ∙ ap (first_some (place_of q ds)) (cond-false (int_eq d.id q) (Some (length ds)) None apart)
    ∙ first_alone (place_of q ds)))
    (cases_Bool (int_eq d.id q))

-- the first indices with a field whose id is known
pub place_old : (q : ℤ) (ds : List DictionaryField) (d : DictionaryField) (j : ℕ) → place_of d.id ds ≡ Some j →
    place_of q ds ≡ place_of q (ds ++ d ∷ [])
place_old q ds d j h =
    ⊎_elim
    (λ same. place_same d.id q ds same ∙ h
    ∙ sym (place_append q ds d ∙ ap (λ o. first_some o (cond (int_eq d.id q) (Some (length ds)) None)) (place_same d.id q ds same ∙ h)))
    (λ apart. sym (place_append q ds d ∙ ap (first_some (place_of q ds)) (cond-false (int_eq d.id q) (Some (length ds)) None apart)
    ∙ first_alone (place_of q ds)))
    (cases_Bool (int_eq d.id q))

-- if an id is neither at the first field nor at a later one, it is not the id of any
unplaced : (b : Bool) (o : Option ℕ) (r : Bool) → cond b (Some 0) (option_map suc o) ≡ None → (o ≡ None → r ≡ false) → (b || r) ≡ false
unplaced true o r h k = cc
unplaced false (Some j) r h k = cc
unplaced false None r h k = k refl

-- an id without a first index is not among the ids
pub place_none : (q : ℤ) (ds : List DictionaryField) → place_of q ds ≡ None → is_among q (ids_of ds) ≡ false
place_none q [] h = refl
place_none q (d ∷ ds) h = unplaced (int_eq d.id q) (place_of q ds) (is_among q (ids_of ds)) h (place_none q ds)

-- the field at the first index of an id
pub record Placed (q : ℤ) (ds : List DictionaryField) (j : ℕ) : Type 0 where
  pub field : DictionaryField
  pub at : slice_get ds j ≡ Some field
  pub same : field.id ≡ q
  pub among : is_among q (ids_of ds) ≡ true
  pub below : j < length ds

-- an index that is not 0 is the successor of another
one_more : (o : Option ℕ) (j : ℕ) → option_map suc o ≡ Some j → (k : ℕ) × (o ≡ Some k) × (suc k ≡ j)
one_more None j h = cc
one_more (Some k) j h = (k, refl, cc)

-- after one more field at the front the index is one higher
placed_later : (q : ℤ) (d : DictionaryField) (ds : List DictionaryField) (k j : ℕ) → Placed q ds k → suc k ≡ j → Placed q (d ∷ ds) j
placed_later q d ds k j h e =
    let at : slice_get (d ∷ ds) (suc k) ≡ Some h.field = h.at in
    record {
      field = h.field;
      at = subst (λ i. slice_get (d ∷ ds) i ≡ Some h.field) e at;
      same = h.same;
      among = or_right (int_eq d.id q) (is_among q (ids_of ds)) h.among;
      below = omega (arith, h.below);
    }

-- there is a field with the id at that index
pub placed : (q : ℤ) (ds : List DictionaryField) (j : ℕ) → place_of q ds ≡ Some j → Placed q ds j
placed q [] j h = cc
placed q (d ∷ ds) j h =
    ⊎_elim
    (λ same. let zero_is : 0 ≡ j = cc (sym (cond-true (int_eq d.id q) (Some 0) (option_map suc (place_of q ds)) same) ∙ h) in
    let at : slice_get (d ∷ ds) 0 ≡ Some d = refl in
    record {
      field = d;
      at = subst (λ i. slice_get (d ∷ ds) i ≡ Some d) zero_is at;
      same = (Decides-int_eq d.id q).0 same;
      among = or_left (int_eq d.id q) (is_among q (ids_of ds)) same;
      below = omega arith;
    })
    (λ apart. let found = one_more (place_of q ds) j (sym (cond-false (int_eq d.id q) (Some 0) (option_map suc (place_of q ds)) apart) ∙ h) in
    placed_later q d ds found.0 j (placed q ds found.0 found.1) found.2)
    (cases_Bool (int_eq d.id q))
