-- Which type fields name for an id, as more fields are added.
use Rattle.std.proofs.Common.{◌≡◌, zero, suc, ℤ, Bool, true, false, cond, List, [], ◌∷◌, ◌++◌, Option, Some, None, ⊎_elim, refl, sym, ap, ◌∙◌}
use Rattle.std.specs.Ordering.{int_eq}
use Rattle.std.proofs.lemmas.Bool.{cases_Bool, cond-true, cond-false}
use Rattle.std.proofs.lemmas.Bool.Decides.{Decides-int_eq}
use Rattle.std.proofs.lemmas.List.{append_assoc}
use Rattle.arrow_types.specs.Field.{TypeShape}
use Rattle.arrow_types.specs.Schema.{DictionaryField, OneType}
use Rattle.arrow_dict.specs.Laws.{NamesEach}
use Rattle.arrow_dict.specs.ValueTypes.{NameSame, value_type_of}

-- the first type that exists
abbrev pub first_of : Option TypeShape → Option TypeShape → Option TypeShape
first_of (Some t) o = Some t
first_of None o = o

-- a test before the first type
first_under : (b : Bool) (t : TypeShape) (o p : Option TypeShape) → cond b (Some t) (first_of o p) ≡ first_of (cond b (Some t) o) p
first_under true t o p = refl
first_under false t o p = refl

-- fields after others name the ids that those do not
pub named_append : (ds es : List DictionaryField) (id : ℤ) → value_type_of (ds ++ es) id ≡ first_of (value_type_of ds id) (value_type_of es id)
named_append [] es id = refl
named_append (d ∷ ds) es id =
    ap (λ o. cond (int_eq d.id id) (Some d.value_type) o) (named_append ds es id)
    ∙ first_under (int_eq d.id id) d.value_type (value_type_of ds id) (value_type_of es id)

-- the same fields appended
pub same_append : (ds es more : List DictionaryField) → NameSame ds es → NameSame (ds ++ more) (es ++ more)
same_append ds es more same id =
    named_append ds more id ∙ ap (λ o. first_of o (value_type_of more id)) (same id) ∙ sym (named_append es more id)

-- a type with none after it
first_alone : (o : Option TypeShape) → first_of o None ≡ o
first_alone (Some t) = refl
first_alone None = refl

-- a type that exists comes first
type_there : (o : Option TypeShape) (t : TypeShape) (p : Option TypeShape) → o ≡ Some t → o ≡ first_of o p
type_there (Some u) t p is = refl
type_there None t p is = cc

-- one more field whose id has a type already
pub same_old : (ds : List DictionaryField) (d : DictionaryField) (t : TypeShape) → value_type_of ds d.id ≡ Some t → NameSame ds (ds ++ d ∷ [])
same_old ds d t there id =
    ⊎_elim
    (λ same. type_there (value_type_of ds id) t (value_type_of (d ∷ []) id) (ap (value_type_of ds) (sym ((Decides-int_eq d.id id).0 same)) ∙ there)
    ∙ sym (named_append ds (d ∷ []) id))
    (λ differs. sym (named_append ds (d ∷ []) id
    ∙ ap (first_of (value_type_of ds id)) (cond-false (int_eq d.id id) (Some d.value_type) None differs)
    ∙ first_alone (value_type_of ds id)))
    (cases_Bool (int_eq d.id id))

-- one more field whose id has none
pub same_new : (ds es : List DictionaryField) (d : DictionaryField) → value_type_of ds d.id ≡ None
    → ((id : ℤ) → value_type_of es id ≡ cond (int_eq d.id id) (Some d.value_type) (value_type_of ds id)) → NameSame es (ds ++ d ∷ [])
same_new ds es d new step id =
    step id
    ∙ ⊎_elim
    (λ same. cond-true (int_eq d.id id) (Some d.value_type) (value_type_of ds id) same
    ∙ sym (named_append ds (d ∷ []) id
    ∙ ap (λ o. first_of o (value_type_of (d ∷ []) id)) (ap (value_type_of ds) (sym ((Decides-int_eq d.id id).0 same)) ∙ new)
    ∙ cond-true (int_eq d.id id) (Some d.value_type) None same))
    (λ differs. cond-false (int_eq d.id id) (Some d.value_type) (value_type_of ds id) differs
    ∙ sym (named_append ds (d ∷ []) id
    ∙ ap (first_of (value_type_of ds id)) (cond-false (int_eq d.id id) (Some d.value_type) None differs)
    ∙ first_alone (value_type_of ds id)))
    (cases_Bool (int_eq d.id id))

-- three lists, one after the other: what the first field says, what the fields below it say, and what those after it
-- say
pub same_step : (start found own below rest all : List DictionaryField) (after_own after : List DictionaryField)
    → NameSame after_own (found ++ own) → NameSame after (after_own ++ below) → NameSame (found ++ (own ++ below ++ rest)) (start ++ all) → NameSame (after ++ rest) (start ++ all)
same_step start found own below rest all after_own after by_own by_below invariant id =
    same_append after (after_own ++ below) rest by_below id
    ∙ same_append (after_own ++ below) ((found ++ own) ++ below) rest (same_append after_own (found ++ own) below by_own) id
    ∙ ap (λ ds. value_type_of ds id)
    (append_assoc (found ++ own) below rest ∙ append_assoc found own (below ++ rest) ∙ ap (λ ds. found ++ ds) (sym (append_assoc own below rest)))
    ∙ invariant id

-- if fields that share an id have one type, so have those after the first
one_type_after : (d : DictionaryField) (ds : List DictionaryField) → OneType (d ∷ ds) → OneType ds
one_type_after d ds one i j e f at_i at_j same = one (suc i) (suc j) e f at_i at_j same

-- each field's type is named for its id, if those of one id have one type
pub each_named : NamesEach
each_named [] i d one at = cc
each_named (e ∷ es) zero d one at =
    let same : e ≡ d = cc in
    ap (value_type_of (e ∷ es)) (ap (λ (x : DictionaryField). x.id) (sym same))
    ∙ cond-true (int_eq e.id e.id) (Some e.value_type) (value_type_of es e.id) ((Decides-int_eq e.id e.id).1 refl)
    ∙ ap (λ (x : DictionaryField). Some x.value_type) same
each_named (e ∷ es) (suc i) d one at =
    ⊎_elim
    (λ same. cond-true (int_eq e.id d.id) (Some e.value_type) (value_type_of es d.id) same
    ∙ ap (λ t. Some t) (one 0 (suc i) e d refl at ((Decides-int_eq e.id d.id).0 same)))
    (λ differs. cond-false (int_eq e.id d.id) (Some e.value_type) (value_type_of es d.id) differs
    ∙ each_named es i d (one_type_after e es one) at)
    (cases_Bool (int_eq e.id d.id))
