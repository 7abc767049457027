-- Whether fields that share a dictionary differ in value type, when one more field is added.
use Rattle.std.proofs.Common.{◌≡◌, ◌≢◌, ℕ, zero, suc, Bool, true, false, not, ◌&&◌, ◌||◌, List, [], ◌∷◌, ◌++◌, Some, slice_get, ap, ◌∙◌, sym, refl, ⊎_elim}
use Rattle.std.specs.List.{list_any}
use Rattle.std.specs.Ordering.{int_eq}
use Rattle.std.proofs.lemmas.Bool.{or_parts, and_from, or_left, or_right, not_from_false, or_cases, both_ways, cases_Bool}
use Rattle.std.proofs.lemmas.Bool.Decides.{Decides-int_eq}
use Rattle.std.proofs.lemmas.Cmp.{int_eq_equiv}
use Rattle.std.proofs.lemmas.List.Folds.{list_any-append}
use Rattle.arrow_types.proofs.Ids.{is_among}
use Rattle.arrow_types.proofs.Places.{ids_of}
use Rattle.arrow_types.specs.Equality.{is_equal, is_equal_decides, is_equal_equivalence}
use Rattle.arrow_types.specs.Schema.{DictionaryField, OneType, clash, types_differ}
use Rattle.arrow_types.specs.Stored.{type_code}

-- a conjunction with a false test is false
never : (b : Bool) → (b && false) ≡ false
never true = refl
never false = refl

-- clashing is symmetric
pub clash_both_ways : (d e : DictionaryField) → clash d e ≡ clash e d
clash_both_ways d e =
    ap (λ b. b && not (is_equal type_code d.value_type e.value_type)) (int_eq_equiv.symm d.id e.id)
    ∙ ap (λ b. int_eq e.id d.id && not b) ((is_equal_equivalence type_code).symm d.value_type e.value_type)

-- fields with the same value type do not clash
no_clash_at : (d e : DictionaryField) → d.value_type ≡ e.value_type → clash d e ≡ false
no_clash_at d e same =
    ap (λ b. int_eq d.id e.id && not b) ((is_equal_decides type_code d.value_type e.value_type).1 same) ∙ never (int_eq d.id e.id)

-- fields with the same id and different value types clash
pub clash_at : (d e : DictionaryField) → d.id ≡ e.id → d.value_type ≢ e.value_type → clash d e ≡ true
clash_at d e same apart =
    and_from (int_eq d.id e.id) (not (is_equal type_code d.value_type e.value_type)) ((Decides-int_eq d.id e.id).1 same)
    (⊎_elim
    (λ equal. absurd (apart ((is_equal_decides type_code d.value_type e.value_type).0 equal)))
    (λ unequal. not_from_false (is_equal type_code d.value_type e.value_type) unequal)
    (cases_Bool (is_equal type_code d.value_type e.value_type)))

-- the order of four tests does not matter
regroup : (a c t n : Bool) → ((a || (c || false)) || (t || n)) ≡ ((a || t) || (c || n))
regroup true c t n = refl
regroup false true true n = refl
regroup false true false n = refl
regroup false false t n = refl

-- with one more field, two fields differ if two did before, or if one clashes with it
pub differ_append : (ds : List DictionaryField) (d : DictionaryField) →
    types_differ (ds ++ d ∷ []) ≡ (types_differ ds || list_any (λ e. clash e d) ds)
differ_append [] d = refl
differ_append (x ∷ xs) d =
    ap (λ b. b || types_differ (xs ++ d ∷ [])) (list_any-append (clash x) xs (d ∷ []))
    ∙ ap (λ b. (list_any (clash x) xs || (clash x d || false)) || b) (differ_append xs d)
    ∙ regroup (list_any (clash x) xs) (clash x d) (types_differ xs) (list_any (λ e. clash e d) xs)

-- if two fields of a list differ, two of a longer list do
pub differ_longer : (ds es : List DictionaryField) → types_differ ds ≡ true → types_differ (ds ++ es) ≡ true
differ_longer [] es h = cc
differ_longer (x ∷ xs) es h =
    ⊎_elim
    (λ here. or_left (list_any (clash x) (xs ++ es)) (types_differ (xs ++ es)) (list_any-append (clash x) xs es ∙ or_left (list_any (clash x) xs) (list_any (clash x) es) here))
    (λ later. or_right (list_any (clash x) (xs ++ es)) (types_differ (xs ++ es)) (differ_longer xs es later))
    (or_cases (list_any (clash x) xs) (types_differ xs) h)

-- a test that fails everywhere fails at each index
any_at : (p : DictionaryField → Bool) (ds : List DictionaryField) (j : ℕ) (e : DictionaryField) → slice_get ds j ≡ Some e → list_any p ds ≡ false → p e ≡ false
any_at p [] j e at h = cc
any_at p (d ∷ ds) zero e at h = let same : d ≡ e = cc in ap p (sym same) ∙ (or_parts (p d) (list_any p ds) h).0
any_at p (d ∷ ds) (suc j) e at h = any_at p ds j e at (or_parts (p d) (list_any p ds) h).1

-- a test that passes at an index passes somewhere
pub any_from : (p : DictionaryField → Bool) (ds : List DictionaryField) (j : ℕ) (e : DictionaryField) → slice_get ds j ≡ Some e → p e ≡ true → list_any p ds ≡ true
any_from p [] j e at h = cc
any_from p (d ∷ ds) zero e at h = let same : d ≡ e = cc in or_left (p d) (list_any p ds) (ap p same ∙ h)
any_from p (d ∷ ds) (suc j) e at h = or_right (p d) (list_any p ds) (any_from p ds j e at h)

-- tests that agree on each field pass somewhere in the same lists
pub any_same : (p q : DictionaryField → Bool) → ((d : DictionaryField) → p d ≡ q d) → (ds : List DictionaryField) → list_any p ds ≡ list_any q ds
any_same p q e [] = refl
any_same p q e (d ∷ ds) = ap (λ b. b || list_any p ds) (e d) ∙ ap (λ b. q d || b) (any_same p q e ds)

-- a field of a list in which no two clash clashes with none of the list
pub no_clash : (ds : List DictionaryField) (j : ℕ) (d : DictionaryField) → slice_get ds j ≡ Some d → types_differ ds ≡ false →
    list_any (λ e. clash e d) ds ≡ false
no_clash [] j d at h = refl
no_clash (x ∷ xs) zero d at h =
    let same : x ≡ d = cc in
    let apart = or_parts (list_any (clash x) xs) (types_differ xs) h in
    ap (λ b. b || list_any (λ e. clash e d) xs) (no_clash_at x d (ap (λ (y : DictionaryField). y.value_type) same))
    ∙ any_same (λ e. clash e d) (clash d) (λ e. clash_both_ways e d) xs
    ∙ ap (λ y. list_any (clash y) xs) (sym same) ∙ apart.0
no_clash (x ∷ xs) (suc j) d at h =
    let apart = or_parts (list_any (clash x) xs) (types_differ xs) h in
    ap (λ b. b || list_any (λ e. clash e d) xs) (any_at (clash x) xs j d at apart.0)
    ∙ no_clash xs j d at apart.1

-- fields of which no two clash have one value type for each id
pub one_type : (ds : List DictionaryField) → types_differ ds ≡ false → OneType ds
one_type ds h i j d e at_i at_j same =
    ⊎_elim
    (λ equal. (is_equal_decides type_code d.value_type e.value_type).0 equal)
    (λ unequal. let apart : clash d e ≡ false = clash_both_ways d e ∙ any_at (λ x. clash x d) ds j e at_j (no_clash ds i d at_i h) in
    let clashes : clash d e ≡ true = clash_at d e same (λ equal. both_ways _ unequal ((is_equal_decides type_code d.value_type e.value_type).1 equal)) in
    absurd (both_ways (clash d e) apart clashes))
    (cases_Bool (is_equal type_code d.value_type e.value_type))

-- a field with a new id clashes with none
pub no_clash_new : (ds : List DictionaryField) (d : DictionaryField) → is_among d.id (ids_of ds) ≡ false → list_any (λ e. clash e d) ds ≡ false
no_clash_new [] d h = refl
no_clash_new (x ∷ xs) d h =
    let parts = or_parts (int_eq x.id d.id) (is_among d.id (ids_of xs)) h in
    ap (λ b. (b && not (is_equal type_code x.value_type d.value_type)) || list_any (λ e. clash e d) xs) parts.0
    ∙ no_clash_new xs d parts.1

-- two fields that have the same value type if they have the same id do not clash
agree : (d e : DictionaryField) → (d.id ≡ e.id → d.value_type ≡ e.value_type) → clash d e ≡ false
agree d e h =
    ⊎_elim
    (λ same. no_clash_at d e (h ((Decides-int_eq d.id e.id).0 same)))
    (λ other. ap (λ b. b && not (is_equal type_code d.value_type e.value_type)) other)
    (cases_Bool (int_eq d.id e.id))

-- a field that agrees with each field of a list clashes with none of them
agree_all : (d : DictionaryField) (es : List DictionaryField) → ((j : ℕ) (e : DictionaryField) → slice_get es j ≡ Some e → d.id ≡ e.id → d.value_type ≡ e.value_type) → list_any (clash d) es ≡ false
agree_all d [] h = refl
agree_all d (e ∷ es) h = ap (λ b. b || list_any (clash d) es) (agree d e (h 0 e refl)) ∙ agree_all d es (λ j x. h (suc j) x)

-- fields that have one value type for each id do not clash
pub none_differ : (ds : List DictionaryField) → OneType ds → types_differ ds ≡ false
none_differ [] h = refl
none_differ (d ∷ ds) h =
    ap (λ b. b || types_differ ds) (agree_all d ds (λ j e got. h 0 (suc j) d e refl got))
    ∙ none_differ ds (λ i j. h (suc i) (suc j))
