-- The values listed first for an id, as more values are listed.
use Rattle.std.proofs.Common.{◌≡◌, ℤ, Bool, true, false, cond, List, [], ◌∷◌, ◌++◌, Option, Some, None, ⊎_elim, refl, sym, ap, ◌∙◌}
use Rattle.std.specs.List.{AllByRecursion}
use Rattle.std.specs.Option.{unwrap_or}
use Rattle.std.specs.Ordering.{int_eq}
use Rattle.std.specs.Prelude.{option_map}
use Rattle.std.proofs.lemmas.Bool.{cases_Bool, cond-true, cond-false}
use Rattle.std.proofs.lemmas.Bool.Decides.{Decides-int_eq}
use Rattle.arrow_types.specs.Schema.{DictionaryField}
use Rattle.arrow_data.specs.Column.{ValueList}
use Rattle.arrow_layout.specs.PlainValue.{PlainValue}
use Rattle.arrow_dict.specs.ValueTypes.{value_type_of}
use Rattle.arrow_stream_laws.proofs.Lists.{all_left, all_right}
use Rattle.arrow_stream_writer.specs.Lists.{AreFirst, AreFound, first_values}

-- the dictionaries of several ids
abbrev Listed : Type 0
Listed = List (ℤ × ValueList)

module _ {X : Type 0} (P : X → Type 0) where
  pub all_both : (xs ys : List X) → AllByRecursion P xs → AllByRecursion P ys → AllByRecursion P (xs ++ ys)
  all_both [] ys h g = g
  all_both (x ∷ xs) ys h g = (h.0, all_both xs ys h.1 g)

-- after a test that comes first
under_test : (b : Bool) (x : List PlainValue) (o p : Option (List PlainValue)) (v : List PlainValue) → (o ≡ Some v → p ≡ Some v) → cond b (Some x) o ≡ Some v → cond b (Some x) p ≡ Some v
under_test true x o p v f h = h
under_test false x o p v f h = f h

past_test : (b : Bool) (x : List PlainValue) (o p r : Option (List PlainValue)) → (o ≡ None → p ≡ r) → cond b (Some x) o ≡ None → cond b (Some x) p ≡ r
past_test true x o p r f h = absurd (cc)
past_test false x o p r f h = f h

-- a map applied to a choice is applied to both alternatives
pub seen_if : {A B : Type 0} (f : A → B) (b : Bool) (x : A) (o : Option A) → option_map f (cond b (Some x) o) ≡ cond b (Some (f x)) (option_map f o)
seen_if f true x o = refl
seen_if f false x o = refl

-- the values listed first for an id stay so
pub kept : (xs ys : Listed) (id : ℤ) (v : List PlainValue) → first_values xs id ≡ Some v → first_values (xs ++ ys) id ≡ Some v
kept [] ys id v h = cc
kept (x ∷ xs) ys id v h = under_test (int_eq x.0 id) x.1.values (first_values xs id) (first_values (xs ++ ys) id) v (kept xs ys id v) h

-- for an id with no values in the first list, the second list decides
pub passed : (xs ys : Listed) (id : ℤ) → first_values xs id ≡ None → first_values (xs ++ ys) id ≡ first_values ys id
passed [] ys id h = refl
passed (x ∷ xs) ys id h = past_test (int_eq x.0 id) x.1.values (first_values xs id) (first_values (xs ++ ys) id) (first_values ys id) (passed xs ys id) h

-- values are listed for the id
pub record HasFirst (xs : Listed) (id : ℤ) : Type 0 where
  pub values : List PlainValue
  pub first : first_values xs id ≡ Some values

there_after : (x : ℤ × ValueList) (xs : Listed) (id : ℤ) → HasFirst xs id → HasFirst (x ∷ xs) id
there_after x xs id h =
    ⊎_elim
    (λ same. record { values = x.1.values; first = cond-true (int_eq x.0 id) (Some x.1.values) (first_values xs id) same })
    (λ differs. record { values = h.values; first = cond-false (int_eq x.0 id) (Some x.1.values) (first_values xs id) differs ∙ h.first })
    (cases_Bool (int_eq x.0 id))

all_there_after : (x : ℤ × ValueList) (xs ls : Listed) → AllByRecursion (λ (d : ℤ × ValueList). HasFirst xs d.0) ls → AllByRecursion (λ (d : ℤ × ValueList). HasFirst (x ∷ xs) d.0) ls
all_there_after x xs [] h = tt
all_there_after x xs (l ∷ ls) h = (there_after x xs l.0 h.0, all_there_after x xs ls h.1)

-- values are listed for the id of each dictionary in the list
pub all_there : (xs : Listed) → AllByRecursion (λ (d : ℤ × ValueList). HasFirst xs d.0) xs
all_there [] = tt
all_there (x ∷ xs) = (
  record { values = x.1.values; first = cond-true (int_eq x.0 x.0) (Some x.1.values) (first_values xs x.0) ((Decides-int_eq x.0 x.0).1 refl) },
  all_there_after x xs xs (all_there xs),
)

-- dictionaries equal to the first of their ids stay so
widened : (xs ys ls : Listed) → AreFirst xs ls → AreFirst (xs ++ ys) ls
widened xs ys [] h = tt
widened xs ys (l ∷ ls) h = (kept xs ys l.0 l.1.values h.0, widened xs ys ls h.1)

narrowed : (xs ys ls : Listed) → AreFirst (xs ++ ys) ls → AllByRecursion (λ (d : ℤ × ValueList). HasFirst xs d.0) ls → AreFirst xs ls
narrowed xs ys [] h there = tt
narrowed xs ys (l ∷ ls) h there =
    (there.0.first ∙ sym (kept xs ys l.0 there.0.values there.0.first) ∙ h.0, narrowed xs ys ls h.1 there.1)

-- if all dictionaries are equal to the first of their ids, so are those of a prefix of the list
pub beginning_first : (xs ys : Listed) → AreFirst (xs ++ ys) (xs ++ ys) → AreFirst xs xs
beginning_first xs ys h = narrowed xs ys xs (all_left (λ (d : ℤ × ValueList). first_values (xs ++ ys) d.0 ≡ Some d.1.values) xs ys h) (all_there xs)

-- one more dictionary of an id for which values are listed changes nothing
added_again : (xs : Listed) (id : ℤ) (v : List PlainValue) (w : ValueList) (q : ℤ) (o : Option (List PlainValue)) → first_values xs id ≡ Some v → first_values xs q ≡ o
    → first_values (xs ++ (id, w) ∷ []) q ≡ o
added_again xs id v w q (Some u) h is = kept xs ((id, w) ∷ []) q u is
added_again xs id v w q None h is =
    ⊎_elim
    (λ same. let e : id ≡ q = (Decides-int_eq id q).0 same in let clash : Some v ≡ None = sym h ∙ ap (first_values xs) e ∙ is in absurd (cc))
    (λ differs. passed xs ((id, w) ∷ []) q is ∙ cond-false (int_eq id q) (Some w.values) None differs)
    (cases_Bool (int_eq id q))

-- one dictionary of a new id
added_new : (xs : Listed) (id : ℤ) (w : ValueList) (q : ℤ) (o : Option (List PlainValue)) → first_values xs id ≡ None → first_values xs q ≡ o
    → first_values (xs ++ (id, w) ∷ []) q ≡ cond (int_eq id q) (Some w.values) o
added_new xs id w q (Some u) h is =
    kept xs ((id, w) ∷ []) q u is
    ∙ sym (cond-false (int_eq id q) (Some w.values) (Some u)
    (⊎_elim
    (λ same. let e : id ≡ q = (Decides-int_eq id q).0 same in let clash : None ≡ Some u = sym h ∙ ap (first_values xs) e ∙ is in absurd (cc))
    (λ differs. differs)
    (cases_Bool (int_eq id q))))
added_new xs id w q None h is = passed xs ((id, w) ∷ []) q is

module _ (fields : List DictionaryField) (listed : Listed) (find : ℤ → Option ValueList) (found : AreFound fields listed find) where
  -- what was found for an id is listed first for it
  found_first : (id : ℤ) (first : ValueList) → Some first ≡ find id → first_values listed id ≡ Some first.values
  found_first id first is = sym (found.first id) ∙ ap (option_map (λ (d : ValueList). d.values)) (sym is)

  -- an equal dictionary is found already
  pub found_again : (id : ℤ) (d first : ValueList) → Some first ≡ find id → first.values ≡ d.values → AreFound fields (listed ++ (id, d) ∷ []) find
  found_again id d first is same =
      let more = (id, d) ∷ [] in
      let here = found_first id first is in
      record {
        first = λ q. found.first q ∙ sym (added_again listed id first.values d q (first_values listed q) here refl);
        one = all_both (λ (x : ℤ × ValueList). first_values (listed ++ more) x.0 ≡ Some x.1.values) listed more (widened listed more listed found.one)
            (kept listed more id d.values (here ∙ ap (λ v. Some v) same), tt);
        typed = found.typed;
      }

  -- a different one differs from the first
  pub other_found : (id : ℤ) (d first : ValueList) → Some first ≡ find id → (first.values ≡ d.values → ⊥) → AreFirst (listed ++ (id, d) ∷ []) (listed ++ (id, d) ∷ []) → ⊥
  other_found id d first is differs h =
      let more = (id, d) ∷ [] in
      let last = (all_right (λ (x : ℤ × ValueList). first_values (listed ++ more) x.0 ≡ Some x.1.values) listed more h).0 in
      let both : Some first.values ≡ Some d.values = sym (kept listed more id first.values (found_first id first is)) ∙ last in
      differs (ap (λ o. unwrap_or o []) both)

  -- the first dictionary of its id is now found
  pub new_found : (id : ℤ) (d : ValueList) (after : ℤ → Option ValueList) → None ≡ find id → ((q : ℤ) → after q ≡ cond (int_eq id q) (Some d) (find q)) → value_type_of fields id ≡ Some d.data_type
      → AreFound fields (listed ++ (id, d) ∷ []) after
  new_found id d after none step named =
      let more = (id, d) ∷ [] in
      let values_of = option_map (λ (x : ValueList). x.values) in
      let absent : first_values listed id ≡ None = sym (found.first id) ∙ ap values_of (sym none) in
      record {
        first = λ q.
            ap values_of (step q) ∙ mapped (int_eq id q) q
            ∙ sym (added_new listed id d q (first_values listed q) absent refl);
        one = all_both (λ (x : ℤ × ValueList). first_values (listed ++ more) x.0 ≡ Some x.1.values) listed more (widened listed more listed found.one)
            (passed listed more id absent ∙ cond-true (int_eq id id) (Some d.values) None ((Decides-int_eq id id).1 refl), tt);
        typed = λ q e is. its_type (int_eq id q) q e refl (sym (step q) ∙ is);
      } where
        mapped : (b : Bool) (q : ℤ) → option_map (λ (x : ValueList). x.values) (cond b (Some d) (find q)) ≡ cond b (Some d.values) (first_values listed q)
        mapped true q = refl
        mapped false q = found.first q

        its_type : (b : Bool) (q : ℤ) (e : ValueList) → int_eq id q ≡ b → cond b (Some d) (find q) ≡ Some e → value_type_of fields q ≡ Some e.data_type
        its_type true q e same is =
            let here : id ≡ q = (Decides-int_eq id q).0 same in
            let is_d : d ≡ e = cc in
            ap (value_type_of fields) (sym here) ∙ named ∙ ap (λ (x : ValueList). Some x.data_type) is_d
        its_type false q e same is = found.typed q e is

-- nothing was found for no columns
pub nothing_found : (fields : List DictionaryField) (find : ℤ → Option ValueList) → ((id : ℤ) → find id ≡ None) → AreFound fields [] find
nothing_found fields find empty = record {
  first = λ id. ap (option_map (λ (d : ValueList). d.values)) (empty id);
  one = tt;
  typed = λ id d is. let clash : None ≡ Some d = sym (empty id) ∙ is in absurd (cc);
}
