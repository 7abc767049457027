-- What a visitor takes of consecutive slots, run by run.
use Rattle.std.proofs.Common.{◌≡◌, ◌≤◌, ◌<◌, ℕ, zero, suc, ◌+◌, ◌-◌, List, [], ◌∷◌, ◌++◌, length, map, replicate, refl, sym, ap, ◌∙◌, subst, arith, append-nil, length-append, true}
use Rattle.std.specs.List.{AllByRecursion, flat_map}
use Rattle.std.proofs.lemmas.Grind.{flat_map-append}
use Rattle.std.proofs.lemmas.List.{ext_get_or, get_or-map, length-map, map-append}
use Rattle.arrow_data.specs.Column.{Column, HasField, values_from}
use Rattle.arrow_data.specs.FullSlots.{AreFull}
use Rattle.arrow_layout.specs.PlainValue.{PlainValue, null_value, field_value, is_null_value, value_at}
use Rattle.arrow_data.proofs.Sameness.{at_values_from, length-values_from}
use Rattle.arrow_body_laws.specs.Raws.{items_in_value}
use Rattle.arrow_body_slots.proofs.Ranges.{all_first, all_last, from_both, from_next, none_from, null_of}
use Rattle.arrow_body_writer.proofs.Sending.{along_more}
use Rattle.arrow_body_writer.specs.Sent.{sent_along}
use Rattle.arrow_body_writer.specs.declared.steps.ChildPath.{ChildPath}

-- what values send is what the first ones send, followed by what the others send
abbrev pub Splits : (List PlainValue → List PlainValue) → Type 0
Splits sent = (vs ws : List PlainValue) → sent (vs ++ ws) ≡ sent vs ++ sent ws

-- what the items of lists send along steps, with n nulls under a null, and what a field of structs sends
abbrev pub by_items : ℕ → ChildPath → List PlainValue → List PlainValue
by_items n steps vs = sent_along steps (flat_map (items_in_value n) vs)

abbrev pub by_field : ℕ → ChildPath → List PlainValue → List PlainValue
by_field k steps vs = sent_along steps (map (field_value k) vs)

pub items_split : (n : ℕ) (steps : ChildPath) → Splits (by_items n steps)
items_split n steps vs ws = ap (sent_along steps) (flat_map-append (items_in_value n) vs ws) ∙ along_more steps (flat_map (items_in_value n) vs) (flat_map (items_in_value n) ws)

pub field_split : (k : ℕ) (steps : ChildPath) → Splits (by_field k steps)
field_split k steps vs ws = ap (sent_along steps) (map-append (field_value k) vs ws) ∙ along_more steps (map (field_value k) vs) (map (field_value k) ws)

-- no values send nothing
empty_by : (vs : List PlainValue) → vs ≡ vs ++ vs → vs ≡ []
empty_by [] e = e
empty_by (v ∷ vs) e = absurd (omega (arith, ap length e, length-append (v ∷ vs) (v ∷ vs)))

pub nothing_sent : (sent : List PlainValue → List PlainValue) → Splits sent → sent [] ≡ []
nothing_sent sent splits = empty_by (sent []) (splits [] [])

-- one more null
null_more : (n : ℕ) → replicate (n + 1) null_value ≡ replicate n null_value ++ null_value ∷ []
null_more zero = refl
null_more (suc n) =
    let one : suc n + 1 ≡ suc (n + 1) = omega arith in
    ap (λ k. replicate k null_value) one ∙ ap (λ vs. null_value ∷ vs) (null_more n)

-- slots are taken, and then others; nothing is taken if nothing is done
module _ {V : Type 0} (takes : V → V → List PlainValue → Type 0) (nothing : (v : V) → takes v v [])
    (more : (a b c : V) (vs ws : List PlainValue) → takes a b vs → takes b c ws → takes a c (vs ++ ws)) where
  -- nothing is taken of an empty range
  pub takes_start : (sent : List PlainValue → List PlainValue) (p : V) (raw : List PlainValue) (start : ℕ) → Splits sent → takes p p (sent (values_from raw start start))
  takes_start sent p raw start splits = subst (takes p p) (sym (ap sent (none_from raw start) ∙ nothing_sent sent splits)) (nothing p)

  -- one more part of a range is taken
  pub takes_part : (sent : List PlainValue → List PlainValue) (a b d : V) (raw : List PlainValue) (start i end : ℕ) → Splits sent → start ≤ i → i ≤ end
      → takes a b (sent (values_from raw start i)) → takes b d (sent (values_from raw i end)) → takes a d (sent (values_from raw start end))
  takes_part sent a b d raw start i end splits low order one other =
      subst (takes a d) (sym (ap sent (from_both raw start i end low order) ∙ splits (values_from raw start i) (values_from raw i end)))
      (more a b d (sent (values_from raw start i)) (sent (values_from raw i end)) one other)

  -- one more null is taken
  pub takes_null : (sent : List PlainValue → List PlainValue) (a b d : V) (raw : List PlainValue) (start i : ℕ) → Splits sent → start ≤ i → i < length raw → is_null_value (value_at raw i) ≡ true
      → takes a b (sent (values_from raw start i)) → takes b d (sent (null_value ∷ [])) → takes a d (sent (values_from raw start (i + 1)))
  takes_null sent a b d raw start i splits low high null one other =
      subst (takes a d) (sym (ap sent (from_next raw start i low high ∙ ap (λ v. values_from raw start i ++ v ∷ []) (null_of (value_at raw i) null)) ∙ splits (values_from raw start i) (null_value ∷ [])))
      (more a b d (sent (values_from raw start i)) (sent (null_value ∷ [])) one other)

  pub takes_nulls : (steps : ChildPath) (a b d : V) (n : ℕ) → takes a b (sent_along steps (replicate n null_value)) → takes b d (sent_along steps (null_value ∷ [])) → takes a d (sent_along steps (replicate (n + 1) null_value))
  takes_nulls steps a b d n one other =
      subst (takes a d) (sym (ap (sent_along steps) (null_more n) ∙ along_more steps (replicate n null_value) (null_value ∷ [])))
      (more a b d (sent_along steps (replicate n null_value)) (sent_along steps (null_value ∷ [])) one other)

-- in place of a null list n nulls are sent
pub null_list : (n : ℕ) (steps : ChildPath) → sent_along steps (replicate n null_value) ≡ by_items n steps (null_value ∷ [])
null_list n steps = ap (sent_along steps) (sym (append-nil (replicate n null_value)))

-- a property of everything that a range sends holds of everything that a part of it sends
pub all_of_part : (P : PlainValue → Type 0) (sent : List PlainValue → List PlainValue) (raw : List PlainValue) (start i end stop : ℕ) → Splits sent → start ≤ i → i ≤ end → end ≤ stop
    → AllByRecursion P (sent (values_from raw start stop)) → AllByRecursion P (sent (values_from raw i end))
all_of_part P sent raw start i end stop splits low order high all =
    let before = values_from raw start i in
    let part = values_from raw i end in
    let after = values_from raw end stop in
    let split : values_from raw start stop ≡ before ++ (part ++ after) = from_both raw start i stop low (omega (arith, order, high)) ∙ ap (λ others. before ++ others) (from_both raw i end stop order high) in
    let parts = ap sent split ∙ splits before (part ++ after) ∙ ap (λ others. sent before ++ others) (splits part after) in
    all_first P (sent part) (sent after) (all_last P (sent before) (sent part ++ sent after) (subst (AllByRecursion P) parts all))

-- the values of a field in structs without nulls are those of its child
pub fields_are : (c child : Column) (start stop k : ℕ) → HasField c k child → start ≤ stop → stop ≤ length c.raw → AreFull c start stop → map (field_value k) (values_from c.raw start stop) ≡ values_from child.raw start stop
fields_are c child start stop k field order inside full =
    let here = length-values_from c.raw start stop inside in
    let there = length-values_from child.raw start stop (omega (arith, inside, field.longer)) in
    let long = length-map (values_from c.raw start stop) (field_value k) in
    ext_get_or null_value (map (field_value k) (values_from c.raw start stop)) (values_from child.raw start stop) (omega (arith, long, here, there))
    (λ j h. let few : j < stop - start = omega (arith, h, long, here) in
    get_or-map (field_value k) (values_from c.raw start stop) j null_value null_value (omega (arith, few, here))
    ∙ ap (field_value k) (at_values_from c.raw start stop j few)
    ∙ (field.same (start + j) (omega (arith, few, inside)) (full (start + j) (omega arith) (omega (arith, few)))).0
    ∙ sym (at_values_from child.raw start stop j few))

-- a property of all values that implies another
pub all_kept : (P Q : PlainValue → Type 0) (vs : List PlainValue) → ((v : PlainValue) → P v → Q v) → AllByRecursion P vs → AllByRecursion Q vs
all_kept P Q [] keeps all = tt
all_kept P Q (v ∷ vs) keeps all = (keeps v all.0, all_kept P Q vs keeps all.1)
