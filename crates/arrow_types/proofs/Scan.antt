-- What the loop over the encoded fields knows, when one more field is added.
use Rattle.std.proofs.Common.{◌≡◌, ◌≢◌, ℕ, ℤ, true, false, cond, List, [], ◌∷◌, ◌++◌, length, Option, Some, None, slice_get, ap, ◌∙◌, sym}
use Rattle.std.specs.Ordering.{int_eq}
use Rattle.std.proofs.lemmas.Bool.{or_from, or_right}
use Rattle.std.proofs.lemmas.List.{map-append}
use Rattle.arrow_types.proofs.Clashes.{differ_append, differ_longer, no_clash, no_clash_new, clash_at, any_from}
use Rattle.arrow_types.proofs.Ids.{each_once_new, each_once_old}
use Rattle.arrow_types.proofs.Places.{ids_of, place_of, place_new, place_old, place_none, placed}
use Rattle.arrow_types.specs.Schema.{DictionaryField, clash, each_once, types_differ}

-- for the fields so far: their ids, the first index of each id, and that no two differ
pub record Scanned (ds : List DictionaryField) (ids : List ℤ) (places : ℤ → Option ℕ) : Type 0 where
  pub listed : ids ≡ each_once (ids_of ds)
  pub found : (q : ℤ) → places q ≡ place_of q ds
  pub agree : types_differ ds ≡ false

-- the id of one more field comes last
ids_append : (ds : List DictionaryField) (d : DictionaryField) → ids_of (ds ++ d ∷ []) ≡ ids_of ds ++ d.id ∷ []
ids_append ds d = map-append (λ (e : DictionaryField). e.id) ds (d ∷ [])

-- a field with a new id
pub scanned_new : (ds : List DictionaryField) (ids : List ℤ) (places later : ℤ → Option ℕ) (d : DictionaryField) →
    Scanned ds ids places → places d.id ≡ None →
    ((q : ℤ) → later q ≡ cond (int_eq d.id q) (Some (length ds)) (places q)) →
    Scanned (ds ++ d ∷ []) (ids ++ d.id ∷ []) later
scanned_new ds ids places later d known new step =
    let unplaced : place_of d.id ds ≡ None = sym (known.found d.id) ∙ new in
    record {
      listed = ap (λ xs. xs ++ d.id ∷ []) known.listed ∙ sym (ap each_once (ids_append ds d) ∙ each_once_new (ids_of ds) d.id (place_none d.id ds unplaced));
      found = λ q. step q ∙ ap (cond (int_eq d.id q) (Some (length ds))) (known.found q) ∙ place_new q ds d unplaced;
      agree = differ_append ds d ∙ or_from (types_differ ds) _ known.agree (no_clash_new ds d (place_none d.id ds unplaced));
    }

-- a field with a known id and that id's type
pub scanned_old : (ds : List DictionaryField) (ids : List ℤ) (places : ℤ → Option ℕ) (d e : DictionaryField) (j : ℕ) →
    Scanned ds ids places → places d.id ≡ Some j → slice_get ds j ≡ Some e → e.value_type ≡ d.value_type →
    Scanned (ds ++ d ∷ []) ids places
scanned_old ds ids places d e j known old at same =
    let here = placed d.id ds j (sym (known.found d.id) ∙ old) in
    let here_is : here.field ≡ e = cc (sym here.at ∙ at) in
    let known_field : e ≡ d = λ i. record { id = (ap (λ (x : DictionaryField). x.id) (sym here_is) ∙ here.same) i; value_type = same i } in
    record {
      listed = known.listed ∙ sym (ap each_once (ids_append ds d) ∙ each_once_old (ids_of ds) d.id here.among);
      found = λ q. known.found q ∙ place_old q ds d j (sym (known.found d.id) ∙ old);
      agree = differ_append ds d ∙ or_from (types_differ ds) _ known.agree (no_clash ds j d (at ∙ ap Some known_field) known.agree);
    }

-- a field with a known id and another type
pub scanned_clash : (ds rest : List DictionaryField) (ids : List ℤ) (places : ℤ → Option ℕ) (d e : DictionaryField) (j : ℕ) →
    Scanned ds ids places → places d.id ≡ Some j → slice_get ds j ≡ Some e → e.value_type ≢ d.value_type →
    types_differ ((ds ++ d ∷ []) ++ rest) ≡ true
scanned_clash ds rest ids places d e j known old at apart =
    let here = placed d.id ds j (sym (known.found d.id) ∙ old) in
    let here_is : here.field ≡ e = cc (sym here.at ∙ at) in
    let same : e.id ≡ d.id = ap (λ (x : DictionaryField). x.id) (sym here_is) ∙ here.same in
    differ_longer (ds ++ d ∷ []) rest
    (differ_append ds d ∙ or_right (types_differ ds) _ (any_from (λ x. clash x d) ds j e at (clash_at e d same apart)))
