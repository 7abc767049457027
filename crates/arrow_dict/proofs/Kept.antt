-- What the kept fields say, when they are looked up and when one more is added.
use Rattle.std.proofs.Common.{◌≡◌, ℤ, Bool, true, false, cond, List, [], ◌∷◌, ◌++◌, map, Option, Some, None, Ordering, Less, Equal, Greater, option_map, is_some, refl, sym, ap, ◌∙◌}
use Rattle.std.specs.BTreeMap.{is_at, insert_entry}
use Rattle.std.specs.List.{AllByRecursion}
use Rattle.std.specs.Map.{lookup}
use Rattle.std.specs.Option.{option_copied}
use Rattle.std.specs.Ordering.{int_cmp, int_eq, match_ordering}
use Rattle.std.proofs.lemmas.Cmp.{int_eq_equiv}
use denote.Ref.{Bor}
use Rattle.arrow_types.specs.Field.{FieldShape, TypeShape}
use Rattle.arrow_types.specs.Schema.{DictionaryField}
use Rattle.arrow_data.specs.Parts.{type_of}
use Rattle.arrow_dict.specs.ValueFields.{IsValueField, named}
use Rattle.arrow_dict.specs.ValueTypes.{NameSame, value_field, value_type_of}
use Rattle.arrow_dict.proofs.Naming.{same_new, same_old}

-- the type of a kept field's values
abbrev pub type_in : FieldShape → TypeShape
type_in f = type_of f

-- the field that is kept for an id
abbrev pub kept_for : ℤ → List (ℤ × FieldShape) → Option FieldShape
kept_for id es = lookup (is_at (int_cmp id)) es

-- the type of the field that a test chooses
map_cond : (b : Bool) (f : FieldShape) (o : Option FieldShape) → option_map type_in (cond b (Some f) o) ≡ cond b (Some (type_in f)) (option_map type_in o)
map_cond true f o = refl
map_cond false f o = refl

-- the type that is named for an id is that of the field that is kept for it
named_kept : (es : List (ℤ × FieldShape)) (id : ℤ) → value_type_of (map named es) id ≡ option_map type_in (kept_for id es)
named_kept [] id = refl
named_kept (e ∷ es) id =
    ap (λ o. cond (int_eq e.0 id) (Some (type_in e.1)) o) (named_kept es id)
    ∙ ap (λ b. cond b (Some (type_in e.1)) (option_map type_in (kept_for id es))) (int_eq_equiv.symm e.0 id)
    ∙ sym (map_cond (int_eq id e.0) e.1 (kept_for id es))

-- a field that a test chooses is that of values of its type
shown_cond : (b : Bool) (f : FieldShape) (o : Option FieldShape) → f ≡ value_field (type_in f) → o ≡ option_map value_field (option_map type_in o)
    → cond b (Some f) o ≡ option_map value_field (option_map type_in (cond b (Some f) o))
shown_cond true f o here rest = ap (λ x. Some x) here
shown_cond false f o here rest = rest

-- a kept field is that of values of its type
shown_kept : (es : List (ℤ × FieldShape)) (id : ℤ) → AllByRecursion IsValueField es → kept_for id es ≡ option_map value_field (option_map type_in (kept_for id es))
shown_kept [] id all = refl
shown_kept (e ∷ es) id all = shown_cond (int_eq id e.0) e.1 (kept_for id es) all.0 (shown_kept es id all.1)

-- a field that was looked up is equal to the kept one
copied : (r : Option (Bor FieldShape)) → option_map (λ (f : Bor FieldShape). f.now) r ≡ option_copied r
copied None = refl
copied (Some f) = refl

-- what is returned for an id
pub answered : (es : List (ℤ × FieldShape)) (id x : ℤ) (r : Option (Bor FieldShape)) → AllByRecursion IsValueField es → x ≡ id → option_copied r ≡ kept_for x es
    → option_map (λ (f : Bor FieldShape). f.now) r ≡ option_map value_field (value_type_of (map named es) id)
answered es id x r all passed is =
    copied r ∙ is ∙ ap (λ y. kept_for y es) passed ∙ shown_kept es id all ∙ ap (option_map value_field) (sym (named_kept es id))

-- if a field is kept for the id, one more of that id changes nothing
there_kept : (ds : List DictionaryField) (d : DictionaryField) (o : Option FieldShape) → value_type_of ds d.id ≡ option_map type_in o → true ≡ is_some o → NameSame ds (ds ++ d ∷ [])
there_kept ds d None is some = cc
there_kept ds d (Some f) is some = same_old ds d (type_in f) is

-- a type for an id that has one changes nothing
pub kept_old : (es : List (ℤ × FieldShape)) (d : DictionaryField) (x : ℤ) → x ≡ d.id → true ≡ is_some (kept_for x es) → NameSame (map named es) (map named es ++ d ∷ [])
kept_old es d x passed some = there_kept (map named es) d (kept_for d.id es) (named_kept es d.id) (some ∙ ap (λ y. is_some (kept_for y es)) passed)

-- if no field is kept, no type is named
not_kept : (o : Option FieldShape) → false ≡ is_some o → option_map type_in o ≡ None
not_kept None none = refl
not_kept (Some f) none = cc

-- a type for a new id
pub kept_new : (es fs : List (ℤ × FieldShape)) (d : DictionaryField) (x : ℤ) (f : FieldShape) → x ≡ d.id → type_in f ≡ d.value_type → false ≡ is_some (kept_for x es)
    → ((q : ℤ) → kept_for q fs ≡ cond (int_eq x q) (Some f) (kept_for q es)) → NameSame (map named fs) (map named es ++ d ∷ [])
kept_new es fs d x f passed typed none step =
    same_new (map named es) (map named fs) d
    (named_kept es d.id ∙ not_kept (kept_for d.id es) (none ∙ ap (λ y. is_some (kept_for y es)) passed))
    (λ q. named_kept fs q ∙ ap (option_map type_in) (step q) ∙ map_cond (int_eq x q) f (kept_for q es)
    ∙ ap (λ y. cond (int_eq y q) (Some (type_in f)) (option_map type_in (kept_for q es))) passed
    ∙ ap (λ t. cond (int_eq d.id q) (Some t) (option_map type_in (kept_for q es))) typed
    ∙ ap (λ o. cond (int_eq d.id q) (Some d.value_type) o) (sym (named_kept es q)))

-- a proposition that holds of all three lists holds of the one that an order chooses
by_ordering : (P : List (ℤ × FieldShape) → Type 0) (o : Ordering) (a b c : List (ℤ × FieldShape)) → P a → P b → P c → P (match_ordering o a b c)
by_ordering P Less a b c less equal greater = less
by_ordering P Equal a b c less equal greater = equal
by_ordering P Greater a b c less equal greater = greater

-- the kept fields are those of values, with one more
pub all_kept : (es : List (ℤ × FieldShape)) (x : ℤ) (f : FieldShape) → AllByRecursion IsValueField es → IsValueField (x, f) → AllByRecursion IsValueField (insert_entry int_cmp es x f)
all_kept [] x f all here = (here, tt)
all_kept (e ∷ es) x f all here =
    by_ordering (λ fs. AllByRecursion IsValueField fs) (int_cmp x e.0) ((x, f) ∷ e ∷ es) ((e.0, f) ∷ es) (e ∷ insert_entry int_cmp es x f)
    (here, all) (here, all.1) (all.0, all_kept es x f all.1 here)

-- a field that is made for values of a type
pub made_shown : (x : ℤ) (f : FieldShape) (t : TypeShape) → f ≡ value_field t → IsValueField (x, f)
made_shown x f t shown = shown ∙ ap (λ s. value_field (type_of s)) (sym shown)

-- and its values have that type
pub made_typed : (f : FieldShape) (t : TypeShape) → f ≡ value_field t → type_in f ≡ t
made_typed f t shown = ap type_of shown
