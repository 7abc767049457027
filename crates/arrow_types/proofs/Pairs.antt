-- All pairs of dictionary-encoded fields: some pair clashes exactly if the types of a shared dictionary differ.
use Rattle.std.proofs.Common.{◌≡◌, ℕ, zero, suc, Bool, true, false, ◌||◌, List, [], ◌∷◌, ◌++◌, Some, slice_get, ap, ◌∙◌, sym, refl, ⊎_elim}
use Rattle.std.specs.List.{list_any}
use Rattle.std.proofs.lemmas.Bool.{or_left, or_right, or_cases, cases_Bool}
use Rattle.std.proofs.lemmas.List.Folds.{list_any-append}
use Rattle.arrow_types.proofs.Clashes.{any_same, clash_both_ways, no_clash}
use Rattle.arrow_types.specs.Dictionaries.{some_clash, some_differ, head_clashes, head_differs}
use Rattle.arrow_types.specs.Field.{FieldTree, none, more}
use Rattle.arrow_types.specs.Schema.{DictionaryField, clash, types_differ, dictionary_fields, dictionary_of}

-- a test passes somewhere in three appended lists if it does in one of them
any_of_three : (p : DictionaryField → Bool) (xs ys zs : List DictionaryField) →
    list_any p (xs ++ ys ++ zs) ≡ (list_any p xs || list_any p ys || list_any p zs)
any_of_three p xs ys zs =
    list_any-append p (xs ++ ys) zs ∙ ap (λ b. b || list_any p zs) (list_any-append p xs ys)

-- a field clashes with one field of a tree exactly if it clashes with one of the tree's list of encoded fields
clash_in : (d : DictionaryField) (fs : FieldTree) → list_any (clash d) (dictionary_fields fs) ≡ some_clash d fs
clash_in d none = refl
clash_in d (more head children rest) =
    any_of_three (clash d) (dictionary_of head children) (dictionary_fields children) (dictionary_fields rest)
    ∙ ap (λ b. (head_clashes d head children || b) || list_any (clash d) (dictionary_fields rest)) (clash_in d children)
    ∙ ap (λ b. (head_clashes d head children || some_clash d children) || b) (clash_in d rest)

-- the same for all fields, each compared with all
differ_in : (all fs : FieldTree) → list_any (λ d. some_clash d all) (dictionary_fields fs) ≡ some_differ all fs
differ_in all none = refl
differ_in all (more head children rest) =
    any_of_three (λ d. some_clash d all) (dictionary_of head children) (dictionary_fields children) (dictionary_fields rest)
    ∙ ap (λ b. (head_differs all head children || b) || list_any (λ d. some_clash d all) (dictionary_fields rest)) (differ_in all children)
    ∙ ap (λ b. (head_differs all head children || some_differ all children) || b) (differ_in all rest)

-- a test that fails at each index passes nowhere
any_nowhere : (p : DictionaryField → Bool) (ds : List DictionaryField) → ((j : ℕ) (d : DictionaryField) → slice_get ds j ≡ Some d → p d ≡ false) → list_any p ds ≡ false
any_nowhere p [] h = refl
any_nowhere p (d ∷ ds) h = ap (λ b. b || list_any p ds) (h zero d refl) ∙ any_nowhere p ds (λ j e at. h (suc j) e at)

-- if one test implies another and passes somewhere, the other passes somewhere
any_weaker : (p q : DictionaryField → Bool) → ((d : DictionaryField) → p d ≡ true → q d ≡ true) → (ds : List DictionaryField) → list_any p ds ≡ true → list_any q ds ≡ true
any_weaker p q h [] e = e
any_weaker p q h (d ∷ ds) e =
    ⊎_elim
    (λ here. or_left (q d) (list_any q ds) (h d here))
    (λ later. or_right (q d) (list_any q ds) (any_weaker p q h ds later))
    (or_cases (p d) (list_any p ds) e)

-- if two fields differ, some pair clashes
pairs_clash : (ds : List DictionaryField) → types_differ ds ≡ true → list_any (λ d. list_any (clash d) ds) ds ≡ true
pairs_clash [] h = h
pairs_clash (x ∷ xs) h =
    ⊎_elim
    (λ here. or_left (list_any (clash x) (x ∷ xs)) (list_any (λ d. list_any (clash d) (x ∷ xs)) xs) (or_right (clash x x) (list_any (clash x) xs) here))
    (λ later. or_right (list_any (clash x) (x ∷ xs)) (list_any (λ d. list_any (clash d) (x ∷ xs)) xs)
    (any_weaker (λ d. list_any (clash d) xs) (λ d. list_any (clash d) (x ∷ xs)) (λ d e. or_right (clash d x) (list_any (clash d) xs) e) xs (pairs_clash xs later)))
    (or_cases (list_any (clash x) xs) (types_differ xs) h)

-- some two fields of a list clash exactly if types differ
pairs : (ds : List DictionaryField) → list_any (λ d. list_any (clash d) ds) ds ≡ types_differ ds
pairs ds =
    ⊎_elim
    (λ differ. pairs_clash ds differ ∙ sym differ)
    (λ alike. any_nowhere (λ d. list_any (clash d) ds) ds (λ j d at. any_same (clash d) (λ e. clash e d) (λ e. clash_both_ways d e) ds ∙ no_clash ds j d at alike) ∙ sym alike)
    (cases_Bool (types_differ ds))

-- the same for fields on all levels
pub differ_below : (fs : FieldTree) → some_differ fs fs ≡ types_differ (dictionary_fields fs)
differ_below fs =
    sym (differ_in fs fs)
    ∙ any_same (λ d. some_clash d fs) (λ d. list_any (clash d) (dictionary_fields fs)) (λ d. sym (clash_in d fs)) (dictionary_fields fs)
    ∙ pairs (dictionary_fields fs)
