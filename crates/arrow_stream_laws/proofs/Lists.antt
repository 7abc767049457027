-- Which dictionaries result from what is sent of a batch's lists.
use Rattle.std.proofs.Common.{◌≡◌, ℤ, Bool, true, false, cond, List, [], ◌∷◌, ◌++◌, length, map, take, drop, Option, Some, None, is_some, refl, sym, ap, ◌∙◌, subst, ⊎_elim}
use Rattle.std.specs.List.{AllByRecursion, filter}
use Rattle.std.specs.Prelude.{not, option_map, ◌&&◌, ⊤}
use Rattle.std.specs.Coded.{coded_list}
use Rattle.std.specs.Ordering.{int_eq}
use Rattle.std.proofs.lemmas.Bool.{cases_Bool, cond-true, cond-false}
use Rattle.std.proofs.lemmas.Bool.Decides.{Decides-int_eq}
use Rattle.std.proofs.lemmas.List.{take-append-drop}
use Rattle.arrow_types.specs.DataType.{TypeId}
use Rattle.arrow_types.specs.Equality.{is_equal_decides}
use Rattle.arrow_types.specs.Field.{FieldTree, none, more, TypeShape}
use Rattle.arrow_types.specs.Schema.{DictionaryField, dictionary_of, dictionary_fields, dictionary_ids, each_once}
use Rattle.arrow_types.specs.declared.field.Encoding.{Encoding}
use Rattle.arrow_data.specs.Batch.{Table}
use Rattle.arrow_data.specs.Column.{ValueList}
use Rattle.arrow_data.specs.Listed.{listed, values_by}
use Rattle.arrow_data.specs.Parts.{values_in}
use Rattle.arrow_layout.specs.PlainValue.{PlainValue}
use Rattle.arrow_layout.specs.Stored.{value_code}
use Rattle.arrow_dict.specs.ValueTypes.{value_type_of}
use Rattle.arrow_dict.proofs.Placing.{listed_here, listed_elsewhere}
use Rattle.arrow_stream_reader.specs.Batch.{base_of}
use Rattle.arrow_dict.specs.declared.update.Update.{Update}
use Rattle.arrow_dict.specs.declared.update.Update.TheVariants as updates
use Rattle.arrow_dict.specs.declared.update.Updates.{Updates}
use Rattle.arrow_dict.specs.declared.update.Updates.TheVariants as modes
use Rattle.arrow_dict.specs.Choice.{same_list}
use Rattle.arrow_stream_laws.specs.Rows.{list_of}
use Rattle.arrow_dict.specs.Choice.{choice, growth}
use Rattle.arrow_stream_laws.specs.Plan.{Sending, sending, sending_for, value_type, with_list, with_lists, sendings, plan}
use Rattle.arrow_stream_laws.proofs.Columns.{EncodingAgrees, AgreeOn}

-- IDS OF A SCHEMA

module _ {X : Type 0} (P : X → Type 0) where
  pub all_left : (xs ys : List X) → AllByRecursion P (xs ++ ys) → AllByRecursion P xs
  all_left [] ys h = tt
  all_left (x ∷ xs) ys h = (h.0, all_left xs ys h.1)

  pub all_right : (xs ys : List X) → AllByRecursion P (xs ++ ys) → AllByRecursion P ys
  all_right [] ys h = h
  all_right (x ∷ xs) ys h = all_right xs ys h.1

  all_keep : (b : Bool) (x : X) (xs : List X) → P x → AllByRecursion P xs → AllByRecursion P (cond b (x ∷ xs) xs)
  all_keep true x xs h g = (h, g)
  all_keep false x xs h g = g

  all_filter : (p : X → Bool) (xs : List X) → AllByRecursion P xs → AllByRecursion P (filter p xs)
  all_filter p [] h = tt
  all_filter p (x ∷ xs) h = all_keep (p x) x (filter p xs) h.0 (all_filter p xs h.1)

  all_unkeep : (b : Bool) (x : X) (xs : List X) → (b ≡ false → P x) → AllByRecursion P (cond b (x ∷ xs) xs) → P x × AllByRecursion P xs
  all_unkeep true x xs f h = h
  all_unkeep false x xs f h = (f refl, h)

  all_unfilter : (p : X → Bool) (xs : List X) → ((x : X) → p x ≡ false → P x) → AllByRecursion P (filter p xs) → AllByRecursion P xs
  all_unfilter p [] f h = tt
  all_unfilter p (x ∷ xs) f h =
      let q = all_unkeep (p x) x (filter p xs) (f x) h in
      (q.0, all_unfilter p xs f q.1)

module _ (P : ℤ → Type 0) where
  pub all_once : (xs : List ℤ) → AllByRecursion P xs → AllByRecursion P (each_once xs)
  all_once [] h = tt
  all_once (x ∷ xs) h = (h.0, all_filter P (λ y. not (int_eq y x)) (each_once xs) (all_once xs h.1))

  same_id : (x y : ℤ) → P x → not (int_eq y x) ≡ false → P y
  same_id x y h e = subst P (sym ((Decides-int_eq y x).0 (untrue (int_eq y x) e))) h where
    untrue : (b : Bool) → not b ≡ false → b ≡ true
    untrue true e = refl
    untrue false e = absurd (cc)

  pub all_unonce : (xs : List ℤ) → AllByRecursion P (each_once xs) → AllByRecursion P xs
  all_unonce [] h = tt
  all_unonce (x ∷ xs) h =
      (h.0, all_unonce xs (all_unfilter P (λ y. not (int_eq y x)) (each_once xs) (λ y e. same_id x y h.0 e) h.1))

  pub all_ids : (ds : List DictionaryField) → AllByRecursion (λ (d : DictionaryField). P d.id) ds → AllByRecursion P (map (λ (d : DictionaryField). d.id) ds)
  all_ids [] h = tt
  all_ids (d ∷ ds) h = (h.0, all_ids ds h.1)

  pub all_fields : (ds : List DictionaryField) → AllByRecursion P (map (λ (d : DictionaryField). d.id) ds) → AllByRecursion (λ (d : DictionaryField). P d.id) ds
  all_fields [] h = tt
  all_fields (d ∷ ds) h = (h.0, all_fields ds h.1)

-- the schema has a type for the id
pub record HasType (ds : List DictionaryField) (id : ℤ) : Type 0 where
  pub its_type : TypeShape
  pub named : value_type_of ds id ≡ Some its_type

type_after : (d : DictionaryField) (ds : List DictionaryField) (id : ℤ) → HasType ds id → HasType (d ∷ ds) id
type_after d ds id h =
    ⊎_elim
    (λ same. record { its_type = d.value_type; named = cond-true (int_eq d.id id) (Some d.value_type) (value_type_of ds id) same })
    (λ differs. record { its_type = h.its_type; named = cond-false (int_eq d.id id) (Some d.value_type) (value_type_of ds id) differs ∙ h.named })
    (cases_Bool (int_eq d.id id))

types_after : (d : DictionaryField) (ds es : List DictionaryField) → AllByRecursion (λ (x : DictionaryField). HasType ds x.id) es → AllByRecursion (λ (x : DictionaryField). HasType (d ∷ ds) x.id) es
types_after d ds [] h = tt
types_after d ds (e ∷ es) h = (type_after d ds e.id h.0, types_after d ds es h.1)

types_there : (ds : List DictionaryField) → AllByRecursion (λ (x : DictionaryField). HasType ds x.id) ds
types_there [] = tt
types_there (d ∷ ds) = (
  record { its_type = d.value_type; named = cond-true (int_eq d.id d.id) (Some d.value_type) (value_type_of ds d.id) ((Decides-int_eq d.id d.id).1 refl) },
  types_after d ds ds (types_there ds),
)

-- each id of a schema has a type
pub ids_typed : (fields : FieldTree) → AllByRecursion (HasType (dictionary_fields fields)) (dictionary_ids fields)
ids_typed fields =
    let ds = dictionary_fields fields in
    all_once (HasType ds) (map (λ (d : DictionaryField). d.id) ds) (all_ids (HasType ds) ds (types_there ds))

-- LISTS THAT AGREE ON THE IDS AGREE ON THE FIELDS

own_agrees : (d e : ℤ → List PlainValue) (o : Option Encoding) (t : TypeId) (c : FieldTree)
    → AllByRecursion (λ (x : DictionaryField). d x.id ≡ e x.id) (dictionary_of (record { name = []; nullable = true; tag = t; encoding = o }) c) → EncodingAgrees d e o
own_agrees d e None t c h = tt
own_agrees d e (Some x) t c h = h.0

fields_agree : (d e : ℤ → List PlainValue) (fields : FieldTree) → AllByRecursion (λ (x : DictionaryField). d x.id ≡ e x.id) (dictionary_fields fields) → AgreeOn d e fields
fields_agree d e none h = tt
fields_agree d e (more head children rest) h =
    let P = λ (x : DictionaryField). d x.id ≡ e x.id in
    let front = all_left P (dictionary_of head children ++ dictionary_fields children) (dictionary_fields rest) h in (
      own_agrees d e head.encoding head.tag children (all_left P (dictionary_of head children) (dictionary_fields children) front),
      fields_agree d e children (all_right P (dictionary_of head children) (dictionary_fields children) front),
      fields_agree d e rest (all_right P (dictionary_of head children ++ dictionary_fields children) (dictionary_fields rest) h),
    )

pub ids_agree : (d e : ℤ → List PlainValue) (fields : FieldTree) → AllByRecursion (λ id. d id ≡ e id) (dictionary_ids fields) → AgreeOn d e fields
ids_agree d e fields h =
    let P = λ (id : ℤ). d id ≡ e id in
    let ds = dictionary_fields fields in
    fields_agree d e fields (all_fields P ds (all_unonce P (map (λ (x : DictionaryField). x.id) ds) h))

-- THE CHOICE

-- what holds of a dictionary batch where it is sent
pub record IsChosen (fields : FieldTree) (ds : List (ℤ × ValueList)) (w : Sending) : Type 0 where
  pub typed : HasType (dictionary_fields fields) w.id
  pub there : (w.is_delta && not (is_some (listed ds w.id))) ≡ false
  pub after : base_of w.is_delta (listed ds w.id) ++ w.carried ≡ w.whole

-- the same for several, one after another
abbrev pub AreChosen : FieldTree → List (ℤ × ValueList) → List Sending → Type 0
AreChosen fields ds [] = ⊤
AreChosen fields ds (w ∷ ws) = IsChosen fields ds w × AreChosen fields (with_list fields w ds) ws

pub with_lists-append : (fields : FieldTree) (xs ys : List Sending) (ds : List (ℤ × ValueList)) → with_lists fields (xs ++ ys) ds ≡ with_lists fields ys (with_lists fields xs ds)
with_lists-append fields [] ys ds = refl
with_lists-append fields (x ∷ xs) ys ds = with_lists-append fields xs ys (with_list fields x ds)

chosen_both : (fields : FieldTree) (ds : List (ℤ × ValueList)) (xs ys : List Sending) → AreChosen fields ds xs → AreChosen fields (with_lists fields xs ds) ys → AreChosen fields ds (xs ++ ys)
chosen_both fields ds [] ys h g = g
chosen_both fields ds (x ∷ xs) ys h g = (h.0, chosen_both fields (with_list fields x ds) xs ys h.1 g)

-- what the choice says of the old list
abbrev Reports : List (ℤ × ValueList) → ℤ → List PlainValue → Update → Type 0
Reports ds id new updates.None = values_by ds id ≡ new
Reports ds id new updates.New = ⊤
Reports ds id new (updates.Delta n) = (d : ValueList) × (listed ds id ≡ Some d) × (d.values ++ drop n new ≡ new)
Reports ds id new updates.Replace = ⊤

reports_if : (ds : List (ℤ × ValueList)) (id : ℤ) (new : List PlainValue) (b : Bool) (x y : Update) → (b ≡ true → Reports ds id new x) → Reports ds id new y → Reports ds id new (cond b x y)
reports_if ds id new true x y f g = f refl
reports_if ds id new false x y f g = g

equal_lists : (xs ys : List PlainValue) → same_list xs ys ≡ true → xs ≡ ys
equal_lists xs ys e = (is_equal_decides (coded_list value_code) xs ys).0 e

growth_reports : (mode : Updates) (ds : List (ℤ × ValueList)) (id : ℤ) (new : List PlainValue) (d : ValueList) → listed ds id ≡ Some d → Reports ds id new (growth mode d.values new)
growth_reports modes.Resend ds id new d e = tt
growth_reports modes.Delta ds id new d e =
    reports_if ds id new (same_list (take (length d.values) new) d.values) (updates.Delta (length d.values)) updates.Replace
    (λ b. (d, e, ap (λ xs. xs ++ drop (length d.values) new) (sym (equal_lists (take (length d.values) new) d.values b)) ∙ take-append-drop (length d.values) new))
    tt

choice_reports : (mode : Updates) (ds : List (ℤ × ValueList)) (id : ℤ) (new : List PlainValue) (o : Option ValueList) → listed ds id ≡ o
    → Reports ds id new (choice mode (option_map (λ (d : ValueList). d.values) o) new)
choice_reports mode ds id new None e = tt
choice_reports mode ds id new (Some d) e =
    reports_if ds id new (same_list d.values new) updates.None (growth mode d.values new)
    (λ b. ap values_in e ∙ equal_lists d.values new b)
    (growth_reports mode ds id new d e)

-- what is sent for one id
record IsSent (fields : FieldTree) (ds : List (ℤ × ValueList)) (id : ℤ) (new : List PlainValue) (ws : List Sending) : Type 0 where
  pub chosen : AreChosen fields ds ws
  pub here : values_by (with_lists fields ws ds) id ≡ new
  pub others : (j : ℤ) → (j ≡ id → ⊥) → values_by (with_lists fields ws ds) j ≡ values_by ds j

one_sent : (fields : FieldTree) (ds : List (ℤ × ValueList)) (id : ℤ) (new : List PlainValue) (delta : Bool) (carried : List PlainValue) → HasType (dictionary_fields fields) id
    → (delta && not (is_some (listed ds id))) ≡ false → base_of delta (listed ds id) ++ carried ≡ new → IsSent fields ds id new (record { id = id; is_delta = delta; carried = carried; whole = new } ∷ [])
one_sent fields ds id new delta carried t there after =
    let d : ValueList = record { data_type = value_type fields id; values = new } in
    record {
      chosen = (record { typed = t; there = there; after = after }, tt);
      here = ap values_in (listed_here ds id d);
      others = λ j n. ap values_in (listed_elsewhere ds id j d n);
    }

sending_sent : (fields : FieldTree) (ds : List (ℤ × ValueList)) (id : ℤ) (new : List PlainValue) (u : Update) → HasType (dictionary_fields fields) id → Reports ds id new u → IsSent fields ds id new (sending id u new)
sending_sent fields ds id new updates.None t h = record { chosen = tt; here = h; others = λ j n. refl }
sending_sent fields ds id new updates.New t h = one_sent fields ds id new false new t refl refl
sending_sent fields ds id new updates.Replace t h = one_sent fields ds id new false new t refl refl
sending_sent fields ds id new (updates.Delta n) t h =
    one_sent fields ds id new true (drop n new) t (ap (λ o. not (is_some o)) h.1) (ap (λ o. base_of true o ++ drop n new) h.1 ∙ h.2)

-- what is sent for several
pub record AreSent (fields : FieldTree) (lists : ℤ → List PlainValue) (ids : List ℤ) (ds : List (ℤ × ValueList)) (ws : List Sending) : Type 0 where
  pub chosen : AreChosen fields ds ws
  pub lists_are : AllByRecursion (λ id. values_by (with_lists fields ws ds) id ≡ lists id) ids
  pub kept : (j : ℤ) → values_by ds j ≡ lists j → values_by (with_lists fields ws ds) j ≡ lists j

one_kept : (fields : FieldTree) (ds : List (ℤ × ValueList)) (id : ℤ) (lists : ℤ → List PlainValue) (ws : List Sending) → IsSent fields ds id (lists id) ws
    → (j : ℤ) → values_by ds j ≡ lists j → values_by (with_lists fields ws ds) j ≡ lists j
one_kept fields ds id lists ws s j h =
    ⊎_elim
    (λ same. let e : j ≡ id = (Decides-int_eq j id).0 same in ap (values_by (with_lists fields ws ds)) e ∙ s.here ∙ ap lists (sym e))
    (λ differs. s.others j (λ e. let q = sym differs ∙ (Decides-int_eq j id).1 e in absurd (cc)) ∙ h)
    (cases_Bool (int_eq j id))

-- the same, each by the dictionaries after the ones before it
abbrev threaded : Updates → FieldTree → (ℤ → List PlainValue) → List ℤ → List (ℤ × ValueList) → List Sending
threaded mode fields lists [] ds = []
threaded mode fields lists (id ∷ ids) ds =
    sending_for mode ds id (lists id) ++ threaded mode fields lists ids (with_lists fields (sending_for mode ds id (lists id)) ds)

all_threaded : (mode : Updates) (fields : FieldTree) (lists : ℤ → List PlainValue) (ids : List ℤ) (ds : List (ℤ × ValueList)) → AllByRecursion (HasType (dictionary_fields fields)) ids
    → AreSent fields lists ids ds (threaded mode fields lists ids ds)
all_threaded mode fields lists [] ds typed = record { chosen = tt; lists_are = tt; kept = λ j h. h }
all_threaded mode fields lists (id ∷ ids) ds typed =
    let xs = sending_for mode ds id (lists id) in
    let es = with_lists fields xs ds in
    let ys = threaded mode fields lists ids es in
    let s = sending_sent fields ds id (lists id) (choice mode (option_map (λ (d : ValueList). d.values) (listed ds id)) (lists id)) typed.0 (choice_reports mode ds id (lists id) (listed ds id) refl) in
    let i = all_threaded mode fields lists ids es typed.1 in
    let e = sym (with_lists-append fields xs ys ds) in
    record {
      chosen = chosen_both fields ds xs ys s.chosen i.chosen;
      lists_are = subst (λ zs. AllByRecursion (λ j. values_by zs j ≡ lists j) (id ∷ ids)) e (i.kept id s.here, i.lists_are);
      kept = λ j h. subst (λ zs. values_by zs j ≡ lists j) e (i.kept j (one_kept fields ds id lists xs s j h));
    }

-- DISTINCT IDS: what is sent for one changes no other

abbrev Differs : ℤ → ℤ → Type 0
Differs x y = not (int_eq y x) ≡ true

-- no id occurs twice
abbrev Apart : List ℤ → Type 0
Apart [] = ⊤
Apart (x ∷ xs) = AllByRecursion (Differs x) xs × Apart xs

keep_apart : (b : Bool) (x : ℤ) (xs : List ℤ) → AllByRecursion (Differs x) xs → Apart xs → Apart (cond b (x ∷ xs) xs)
keep_apart true x xs h g = (h, g)
keep_apart false x xs h g = g

filter_apart : (p : ℤ → Bool) (xs : List ℤ) → Apart xs → Apart (filter p xs)
filter_apart p [] h = tt
filter_apart p (x ∷ xs) h = keep_apart (p x) x (filter p xs) (all_filter (Differs x) p xs h.0) (filter_apart p xs h.1)

keep_passed : (p : ℤ → Bool) (b : Bool) (x : ℤ) (xs : List ℤ) → p x ≡ b → AllByRecursion (λ y. p y ≡ true) xs → AllByRecursion (λ y. p y ≡ true) (cond b (x ∷ xs) xs)
keep_passed p true x xs e h = (e, h)
keep_passed p false x xs e h = h

passed : (p : ℤ → Bool) (xs : List ℤ) → AllByRecursion (λ y. p y ≡ true) (filter p xs)
passed p [] = tt
passed p (x ∷ xs) = keep_passed p (p x) x (filter p xs) refl (passed p xs)

once_apart : (xs : List ℤ) → Apart (each_once xs)
once_apart [] = tt
once_apart (x ∷ xs) = (passed (λ y. not (int_eq y x)) (each_once xs), filter_apart (λ y. not (int_eq y x)) (each_once xs) (once_apart xs))

-- two lists of dictionaries have the same for these ids
abbrev SameFor : List (ℤ × ValueList) → List (ℤ × ValueList) → List ℤ → Type 0
SameFor ds es ids = AllByRecursion (λ id. listed ds id ≡ listed es id) ids

not_same : (x y : ℤ) → Differs x y → y ≡ x → ⊥
not_same x y h e = let q = (Decides-int_eq y x).1 e in absurd (let r = sym h ∙ ap not q in cc)

sending_other : (fields : FieldTree) (ds : List (ℤ × ValueList)) (id j : ℤ) (new : List PlainValue) (u : Update) → (j ≡ id → ⊥) → listed (with_lists fields (sending id u new) ds) j ≡ listed ds j
sending_other fields ds id j new updates.None n = refl
sending_other fields ds id j new updates.New n = listed_elsewhere ds id j (record { data_type = value_type fields id; values = new }) n
sending_other fields ds id j new (updates.Delta k) n = listed_elsewhere ds id j (record { data_type = value_type fields id; values = new }) n
sending_other fields ds id j new updates.Replace n = listed_elsewhere ds id j (record { data_type = value_type fields id; values = new }) n

others_same : (fields : FieldTree) (ds es : List (ℤ × ValueList)) (id : ℤ) (new : List PlainValue) (u : Update) (ids : List ℤ) → AllByRecursion (Differs id) ids → SameFor ds es ids → SameFor ds (with_lists fields (sending id u new) es) ids
others_same fields ds es id new u [] h s = tt
others_same fields ds es id new u (j ∷ ids) h s =
    (s.0 ∙ sym (sending_other fields es id j new u (not_same id j h.0)), others_same fields ds es id new u ids h.1 s.1)

threaded_same : (mode : Updates) (fields : FieldTree) (lists : ℤ → List PlainValue) (ids : List ℤ) (ds es : List (ℤ × ValueList)) → Apart ids → SameFor ds es ids → sendings mode ds lists ids ≡ threaded mode fields lists ids es
threaded_same mode fields lists [] ds es a s = refl
threaded_same mode fields lists (id ∷ ids) ds es a s =
    let u = choice mode (option_map (λ (d : ValueList). d.values) (listed es id)) (lists id) in
    let here = ap (λ o. sending id (choice mode (option_map (λ (d : ValueList). d.values) o) (lists id)) (lists id)) s.0 in
    let rest = threaded_same mode fields lists ids ds (with_lists fields (sending id u (lists id)) es) a.1 (others_same fields ds es id (lists id) u ids a.0 s.1) in
    λ i. here i ++ rest i

all_same : (ds : List (ℤ × ValueList)) (ids : List ℤ) → SameFor ds ds ids
all_same ds [] = tt
all_same ds (id ∷ ids) = (refl, all_same ds ids)

-- what is sent of a batch: its dictionaries are then those that the reader has
pub plan_sent : (mode : Updates) (fields : FieldTree) (ds : List (ℤ × ValueList)) (t : Table) → AreSent fields (list_of t) (dictionary_ids fields) ds (plan mode fields ds t)
plan_sent mode fields ds t =
    let ids = dictionary_ids fields in
    subst (λ ws. AreSent fields (list_of t) ids ds ws)
    (sym (threaded_same mode fields (list_of t) ids ds ds (once_apart (map (λ (d : DictionaryField). d.id) (dictionary_fields fields))) (all_same ds ids)))
    (all_threaded mode fields (list_of t) ids ds (ids_typed fields))
