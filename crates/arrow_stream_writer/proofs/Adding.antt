-- Frames of dictionary batches that are built one after another.
use Rattle.std.proofs.Common.{◌≡◌, ◌&&◌, ◌≤◌, ◌<◌, ◌+◌, ℕ, ℤ, Bool, true, false, cond, List, [], ◌∷◌, ◌++◌, length, take, drop, get_or, pos, Option, Some, None, Result, Ok, Err, refl, sym, ap, ◌∙◌, subst, append_assoc}
use Rattle.std.specs.Coded.{coded_list}
use Rattle.std.specs.List.{AllByRecursion, list_all}
use Rattle.std.proofs.lemmas.List.{append-nil, drop_more, take-append-drop, take_more}
use Rattle.arrow_types.specs.Equality.{is_equal_decides}
use Rattle.std.specs.Option.{unwrap_or}
use Rattle.arrow_types.specs.DataType.{null}
use Rattle.arrow_types.specs.Field.{FieldTree, TypeShape, none}
use Rattle.arrow_types.specs.Limits.{LimitNumbers}
use Rattle.arrow_types.specs.Notes.{SchemaShape}
use Rattle.arrow_types.specs.Schema.{dictionary_fields, dictionary_ids}
use Rattle.arrow_data.specs.Batch.{Table}
use Rattle.arrow_data.specs.Column.{ValueList}
use Rattle.arrow_layout.specs.PlainValue.{PlainValue}
use Rattle.arrow_layout.specs.Stored.{value_code}
use Rattle.arrow_dict.specs.Choice.{choice, same_list}
use Rattle.arrow_dict.specs.declared.update.Update.TheVariants as updates
use Rattle.arrow_dict.specs.declared.update.Updates.{Updates}
use Rattle.arrow_dict.specs.declared.update.Updates.TheVariants as modes
use Rattle.arrow_dict.proofs.Choosing.{no_longer}
use Rattle.arrow_stream_laws.specs.Admission.{sending_fits}
use Rattle.arrow_stream_laws.specs.Frames.{Frame, frames_bytes}
use Rattle.arrow_stream_laws.specs.Plan.{Sending, sending_for, sendings, value_type, with_list, with_lists}
use Rattle.arrow_stream_laws.specs.Rows.{list_of}
use Rattle.arrow_stream_laws.specs.Text.{AreBuilt, AreUpdates, IsUpdate, update_frame}
use Rattle.arrow_sink.specs.declared.write_fault.WriteFault.{WriteFault}
use Rattle.arrow_sink.specs.declared.write_fault.WriteFault.TheVariants.{SchemaDiffers, TooLarge, DictionariesDiffer, Sink, Broken, Finished, Memory}
use Rattle.arrow_stream_laws.proofs.Chains.{frames_bytes-append}
use Rattle.arrow_stream_laws.proofs.Lists.{HasType, ids_typed, with_lists-append}
use Rattle.arrow_stream_writer.specs.Lists.{AreListsOf, dictionary_for}
use Rattle.arrow_stream_writer.specs.Terms.{Terms}
use Rattle.arrow_stream_writer.specs.Updating.{AddsAll, AddsId, AddsOne, IsNamed, RefusesUpdates, IsWorkOf, PutsFrame, Work}
use Rattle.arrow_stream_writer.proofs.Gathering.{all_at}

-- all of two lists
all_true : {A : Type 0} (p : A → Bool) (xs ys : List A) → list_all p xs ≡ true → list_all p ys ≡ true → list_all p (xs ++ ys) ≡ true
all_true p [] ys a b = b
all_true p (x ∷ xs) ys a b = both (p x) (list_all p xs) (list_all p (xs ++ ys)) a (λ h. all_true p xs ys h b) where
  both : (s t u : Bool) → (s && t) ≡ true → (t ≡ true → u ≡ true) → (s && u) ≡ true
  both true t u h f = f h
  both false t u h f = h

-- if a test fails in one of two lists, it fails in both together
not_all_left : {A : Type 0} (p : A → Bool) (xs ys : List A) → list_all p xs ≡ false → list_all p (xs ++ ys) ≡ false
not_all_left p [] ys h = absurd (cc)
not_all_left p (x ∷ xs) ys h = left (p x) (list_all p xs) (list_all p (xs ++ ys)) h (λ e. not_all_left p xs ys e) where
  left : (s t u : Bool) → (s && t) ≡ false → (t ≡ false → u ≡ false) → (s && u) ≡ false
  left true t u h f = f h
  left false t u h f = refl

not_all_right : {A : Type 0} (p : A → Bool) (xs ys : List A) → list_all p ys ≡ false → list_all p (xs ++ ys) ≡ false
not_all_right p [] ys h = h
not_all_right p (x ∷ xs) ys h = right (p x) (list_all p (xs ++ ys)) (not_all_right p xs ys h) where
  right : (s u : Bool) → u ≡ false → (s && u) ≡ false
  right true u h = h
  right false u h = refl

-- the frame of one more dictionary batch after the others
updates_more : (l : LimitNumbers) (align : ℕ) (shape : SchemaShape) (ds : List (ℤ × ValueList)) (ws : List Sending) (fs : List Frame) (w : Sending) (b : List ℕ)
    → AreUpdates l align shape ds ws fs → IsUpdate l align shape.fields w b
    → AreUpdates l align shape ds (ws ++ w ∷ []) (fs ++ update_frame shape (with_lists shape.fields ws ds) w b ∷ [])
updates_more l align shape ds [] fs w b u x =
    subst (λ gs. AreUpdates l align shape ds (w ∷ []) (gs ++ update_frame shape ds w b ∷ [])) (sym u) (b, [], x, refl, refl)
updates_more l align shape ds (v ∷ ws) fs w b u x =
    let i = updates_more l align shape (with_list shape.fields v ds) ws u.1 w b u.3 x in (
      u.0,
      u.1 ++ update_frame shape (with_lists shape.fields ws (with_list shape.fields v ds)) w b ∷ [],
      u.2,
      i,
      ap (λ gs. gs ++ update_frame shape (with_lists shape.fields ws (with_list shape.fields v ds)) w b ∷ []) u.4,
    )

one_built : (l : LimitNumbers) (align : ℕ) (shape : SchemaShape) (ds : List (ℤ × ValueList)) (ws : List Sending) (bytes b : List ℕ) (w : Sending)
    → AreBuilt l align shape ds ws bytes → IsUpdate l align shape.fields w b → AreBuilt l align shape ds (ws ++ w ∷ []) (bytes ++ b)
one_built l align shape ds ws bytes b w x u = record {
  frames = x.frames ++ update_frame shape (with_lists shape.fields ws ds) w b ∷ [];
  updates = updates_more l align shape ds ws x.frames w b x.updates u;
  same = frames_bytes-append x.frames (update_frame shape (with_lists shape.fields ws ds) w b ∷ []) ∙ ap (λ r. frames_bytes x.frames ++ r) (append-nil b) ∙ ap (λ r. r ++ b) x.same;
}

-- the dictionary batches of one more id
sendings_more : (mode : Updates) (ds : List (ℤ × ValueList)) (lists : ℤ → List PlainValue) (ids : List ℤ) (id : ℤ)
    → sendings mode ds lists (ids ++ id ∷ []) ≡ sendings mode ds lists ids ++ sending_for mode ds id (lists id)
sendings_more mode ds lists [] id = append-nil (sending_for mode ds id (lists id))
sendings_more mode ds lists (x ∷ ids) id =
    ap (λ r. sending_for mode ds x (lists x) ++ r) (sendings_more mode ds lists ids id) ∙ sym (append_assoc (sending_for mode ds x (lists x)) (sendings mode ds lists ids) (sending_for mode ds id (lists id)))

-- nothing was built yet
pub starts_work : (terms : Terms) (ds : List (ℤ × ValueList)) (work : Work) → work.bytes ≡ [] → work.tracked.sent ≡ ds → work.tracked.next ≡ ds → IsWorkOf terms ds [] work
starts_work terms ds work e s n = record {
  built = record { frames = []; updates = refl; same = sym e };
  fit = refl;
  sent = s;
  next = n;
}

-- nothing is sent for an id
pub adds_none : (terms : Terms) (work : Work) → AddsOne terms [] work (Ok tt) work
adds_none terms work vs x = subst (λ ws. IsWorkOf terms work.tracked.sent ws work) (sym (append-nil vs)) x

-- a frame is appended, and its dictionary is staged
pub adds_frame : (terms : Terms) (w : Sending) (old new : Work) → PutsFrame terms w old.bytes new.bytes → new.tracked.sent ≡ old.tracked.sent
    → new.tracked.next ≡ with_list terms.shape.fields w old.tracked.next → AddsOne terms (w ∷ []) old (Ok tt) new
adds_frame terms w old new p s n vs x = record {
  built = subst (λ b. AreBuilt terms.limits terms.align terms.shape old.tracked.sent (vs ++ w ∷ []) b) (sym p.appended)
      (one_built terms.limits terms.align terms.shape old.tracked.sent vs old.bytes p.frame w x.built p.is_update);
  fit = all_true (sending_fits terms.limits terms.align terms.shape.fields) vs (w ∷ []) x.fit (ap (λ t. t && true) p.fits_in);
  sent = s;
  next = n ∙ ap (with_list terms.shape.fields w) x.next ∙ sym (with_lists-append terms.shape.fields vs (w ∷ []) old.tracked.sent);
}

-- dictionary batches some of which are rejected are rejected together
refused_all : (terms : Terms) (us ws vs : List Sending) (fault : WriteFault) → RefusesUpdates terms ws fault → RefusesUpdates terms (us ++ ws ++ vs) fault
refused_all terms us ws vs TooLarge h = not_all_left (sending_fits terms.limits terms.align terms.shape.fields) (us ++ ws) vs (not_all_right (sending_fits terms.limits terms.align terms.shape.fields) us ws h)
refused_all terms us ws vs Memory h = h
refused_all terms us ws vs SchemaDiffers h = h
refused_all terms us ws vs DictionariesDiffer h = h
refused_all terms us ws vs Sink h = h
refused_all terms us ws vs Broken h = h
refused_all terms us ws vs Finished h = h

-- what is sent for the ids up to one, for it, and for those after it
parted : (mode : Updates) (ds : List (ℤ × ValueList)) (lists : ℤ → List PlainValue) (us : List ℤ) (id : ℤ) (vs : List ℤ)
    → sendings mode ds lists (us ++ id ∷ vs) ≡ sendings mode ds lists us ++ sending_for mode ds id (lists id) ++ sendings mode ds lists vs
parted mode ds lists [] id vs = refl
parted mode ds lists (x ∷ us) id vs =
    let own = sending_for mode ds x (lists x) in
    let front = sendings mode ds lists us in
    let here = sending_for mode ds id (lists id) in
    let rest = sendings mode ds lists vs in
    ap (λ r. own ++ r) (parted mode ds lists us id vs) ∙ sym (append_assoc own (front ++ here) rest) ∙ ap (λ r. r ++ rest) (sym (append_assoc own front here))

-- a delta begins within the new values
pub delta_inside : (mode : Updates) (o : Option (List PlainValue)) (new : List PlainValue) (n : ℕ) → choice mode o new ≡ updates.Delta n → n ≤ length new
delta_inside mode None new n e = absurd (cc)
delta_inside modes.Resend (Some old) new n e = never (same_list old new) e where
  never : (s : Bool) → cond s updates.None updates.Replace ≡ updates.Delta n → n ≤ length new
  never true h = absurd (cc)
  never false h = absurd (cc)
delta_inside modes.Delta (Some old) new n e =
    by_tests (same_list old new) (same_list (take (length old) new) old) (λ t. no_longer old new ((is_equal_decides (coded_list value_code) (take (length old) new) old).0 t)) e where
      by_tests : (s t : Bool) → (t ≡ true → length old ≤ length new) → cond s updates.None (cond t (updates.Delta (length old)) updates.Replace) ≡ updates.Delta n → n ≤ length new
      by_tests true t f h = absurd (cc)
      by_tests false true f h = let same : length old ≡ n = cc in subst (λ m. m ≤ length new) same (f refl)
      by_tests false false f h = absurd (cc)

-- one more id
pub goes_on : (terms : Terms) (ds : List (ℤ × ValueList)) (lists : ℤ → List PlainValue) (ids : List ℤ) (k : ℕ) (id : ℤ) (old new : Work) → k < length ids → id ≡ get_or ids k (pos 0)
    → IsWorkOf terms ds (sendings terms.updates ds lists (take k ids)) old → AddsOne terms (sending_for terms.updates old.tracked.sent id (lists id)) old (Ok tt) new
    → IsWorkOf terms ds (sendings terms.updates ds lists (take (k + 1) ids)) new
goes_on terms ds lists ids k id old new h is x add =
    let mode = terms.updates in
    let us = sendings mode ds lists (take k ids) in
    let y = add us (subst (λ e. IsWorkOf terms e us old) (sym x.sent) x) in
    let w = subst (λ e. IsWorkOf terms e (us ++ sending_for mode e id (lists id)) new) x.sent y in
    let next : take (k + 1) ids ≡ take k ids ++ id ∷ [] = take_more ids k (pos 0) h ∙ ap (λ i. take k ids ++ i ∷ []) (sym is) in
    subst (λ ws. IsWorkOf terms ds ws new) (sym (ap (sendings mode ds lists) next ∙ sendings_more mode ds lists (take k ids) id)) w

-- a rejection at one id is a rejection of all
pub refused_at : (terms : Terms) (ds : List (ℤ × ValueList)) (lists : ℤ → List PlainValue) (ids : List ℤ) (k : ℕ) (id : ℤ) (fault : WriteFault) (start old new : Work)
    → k < length ids → id ≡ get_or ids k (pos 0) → start.tracked.sent ≡ ds → old.tracked.sent ≡ ds
    → AddsOne terms (sending_for terms.updates old.tracked.sent id (lists id)) old (Err fault) new → AddsAll terms (sendings terms.updates ds lists ids) start (Err fault) new
refused_at terms ds lists ids k id fault start old new h is first sent x =
    let mode = terms.updates in
    let one = subst (λ e. RefusesUpdates terms (sending_for mode e id (lists id)) fault) sent x.0 in
    let all : ids ≡ take k ids ++ id ∷ drop (k + 1) ids =
    sym (take-append-drop k ids) ∙ ap (λ r. take k ids ++ r) (drop_more ids k (pos 0) h ∙ ap (λ i. i ∷ drop (k + 1) ids) (sym is)) in (
      subst (λ ws. RefusesUpdates terms ws fault) (sym (ap (sendings mode ds lists) all ∙ parted mode ds lists (take k ids) id (drop (k + 1) ids)))
          (refused_all terms (sendings mode ds lists (take k ids)) (sending_for mode ds id (lists id)) (sendings mode ds lists (drop (k + 1) ids)) fault one),
      x.1 ∙ sent ∙ sym first,
    )

-- the type that the schema names
pub type_is : (fields : FieldTree) (id : ℤ) (t : TypeShape) → IsNamed fields id t → value_type fields id ≡ t
type_is fields id t named = ap (λ o. unwrap_or o (record { tag = null; children = none })) named

-- what is added for an id of the schema is what is sent of the list that the batch has for it
pub adds_list : (terms : Terms) (find : ℤ → Option ValueList) (t : Table) (ids : List ℤ) (k : ℕ) (id passed : ℤ) (answer : Result (Unit {0}) WriteFault) (old new : Work)
    → t.schema ≡ terms.shape → AreListsOf t find → ids ≡ dictionary_ids terms.shape.fields → k < length ids → id ≡ get_or ids k (pos 0) → passed ≡ id
    → AddsId terms find passed old answer new → AddsOne terms (sending_for terms.updates old.tracked.sent id (list_of t id)) old answer new
adds_list terms find t ids k id passed answer old new same lists are h is passes adds =
    let each = subst (AllByRecursion (λ i. find i ≡ Some (dictionary_for t.schema.fields t i))) (ap (λ (shape : SchemaShape). dictionary_ids shape.fields) same ∙ sym are) lists.each in
    let its_list = all_at (λ i. find i ≡ Some (dictionary_for t.schema.fields t i)) ids k (pos 0) id each h is in
    let d : ValueList = record { data_type = value_type terms.shape.fields id; values = list_of t id } in
    let there : find id ≡ Some d = subst (λ (shape : SchemaShape). find id ≡ Some (dictionary_for shape.fields t id)) same its_list in
    let typed = all_at (HasType (dictionary_fields terms.shape.fields)) ids k (pos 0) id (subst (AllByRecursion (HasType (dictionary_fields terms.shape.fields))) (sym are) (ids_typed terms.shape.fields)) h is in
    let named : IsNamed terms.shape.fields id d.data_type = typed.named ∙ ap (λ x. Some x) (sym (type_is terms.shape.fields id typed.its_type typed.named)) in
    subst (λ i. AddsOne terms (sending_for terms.updates old.tracked.sent i (list_of t id)) old answer new) passes
    (adds d (ap find passes ∙ there) (subst (λ i. IsNamed terms.shape.fields i d.data_type) (sym passes) named))
