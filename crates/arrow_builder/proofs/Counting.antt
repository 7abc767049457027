-- Values counted one after another, in a column and in the columns below it.
use Rattle.std.proofs.Common.{◌≡◌, ℕ, zero, suc, ◌+◌, ◌*◌, ◌<◌, ◌≤◌, Bool, true, false, List, [], ◌∷◌, ◌++◌, length, take, drop, get_or, map, replicate, set, refl, ap, sym, ◌∙◌, subst, arith, length-append, None, Some}
use denote.Param.Weighed.{most}
use Rattle.std.proofs.lemmas.Bool.{false≢true}
use Rattle.std.proofs.lemmas.List.{append-nil, append_assoc, length-replicate, replicate-append-replicate, take-append-drop}
use Rattle.arrow_types.specs.Field.{FieldTree, FieldShape, fields_of, none, more}
use Rattle.arrow_layout.specs.Form.{node_form}
use Rattle.arrow_layout.specs.PlainValue.{PlainValue, field_value, null_value}
use Rattle.arrow_layout.specs.Value.{value_view, values_view}
use Rattle.arrow_layout.specs.declared.form.Form.{Form}
use Rattle.arrow_layout.specs.declared.form.Form.TheVariants as forms
use Rattle.arrow_layout.specs.declared.form.ListForm.{ListForm}
use Rattle.arrow_layout.specs.declared.form.ListForm.TheVariants as lists
use Rattle.arrow_layout.specs.declared.form.OffsetWidth.{OffsetWidth}
use Rattle.arrow_layout.specs.declared.value.Value.{Value}
use Rattle.arrow_builder.specs.Columns.{AllBelow, AllNodes, all_items, child_column}
use Rattle.arrow_builder.specs.Fields.{field_form}
use Rattle.arrow_builder.specs.Tally.{Adds, AddsBelow, AreCounted, Grows, IsCounted, IsTotal, Settles}
use Rattle.arrow_builder.specs.Within.{IsShortNode}
use Rattle.arrow_builder.specs.declared.tally.Tally.{Tally, out-Tally, size-Tally, size_is-Tally}
use Rattle.arrow_builder.specs.declared.tally.Total.{Total}
use Rattle.arrow_builder.proofs.Held.{column_append, column_of_none}
use Rattle.arrow_builder.proofs.Within.{nodes_front}

-- no values
pub adds_none : (t : Tally) → Adds [] t t true
adds_none t = record {
  depth = omega arith;
  held = λ field raw h. h;
  next = λ _ field raw h. subst (λ xs. IsCounted true field xs t) (sym (append-nil raw)) h;
  past = λ no. absurd (false≢true (sym no));
}

-- some values, and more after them
pub adds_then : (xs ys : List PlainValue) (a b c : Tally) (within : Bool) → Adds xs a b true → Adds ys b c within → Adds (xs ++ ys) a c within
adds_then xs ys a b c within ab bc = record {
  depth = omega (arith, ab.depth, bc.depth);
  held = λ field raw h. bc.held field raw (ab.held field raw h);
  next = λ yes field raw h. subst (λ zs. IsCounted true field zs c) (append_assoc raw xs ys) (bc.next yes field (raw ++ xs) (ab.next refl field raw h));
  past = λ no field raw h w. bc.past no field (raw ++ xs) (ab.next refl field raw h) (subst (AllNodes IsShortNode field) (sym (append_assoc raw xs ys)) w);
}

-- if some of the values are too many, all of them are
pub adds_past : (xs ys : List PlainValue) (a b : Tally) → Adds xs a b false → Adds (xs ++ ys) a b false
adds_past xs ys a b h = record {
  depth = h.depth;
  held = h.held;
  next = λ yes. absurd (false≢true yes);
  past = λ _ field raw c w. h.past refl field raw c (nodes_front field (raw ++ xs) ys (subst (AllNodes IsShortNode field) (sym (append_assoc raw xs ys)) w));
}

-- columns that are counted exceed no limit
below_within : (next : Bool) (form : Form) (fields : FieldTree) (k : ℕ) (raw : List PlainValue) (ts : List Tally) → AreCounted next form fields k raw ts → AllBelow IsShortNode form fields k raw
below_within next form none k raw ts h = tt
below_within next form (more head children rest) k raw [] h = absurd h
below_within next form (more head children rest) k raw (t ∷ ts) h = (
  h.1.short,
  below_within next (node_form head.tag head.encoding) children 0 (child_column form k raw) (out-Tally t).below.items h.2,
  below_within next form rest (k + 1) raw ts h.3,
)

pub counted_within : (next : Bool) (field : FieldShape) (raw : List PlainValue) (t : Tally) → IsCounted next field raw t → AllNodes IsShortNode field raw
counted_within next field raw t h = (h.own.short, below_within next (field_form field) field.children 0 raw (out-Tally t).below.items h.below)

-- the first n tallies became others in this way, beginning with that of child k, and the others are unchanged
abbrev pub UpTo : (ℕ → Tally → Tally → Type 0) → ℕ → ℕ → List Tally → List Tally → Type 0
UpTo R zero k os ns = ns ≡ os
UpTo R (suc n) k [] ns = ns ≡ []
UpTo R (suc n) k (o ∷ os) [] = ⊥
UpTo R (suc n) k (o ∷ os) (t ∷ ns) = R k o t × UpTo R n (k + 1) os ns

-- there are as many tallies as before
pub up_to_length : (R : ℕ → Tally → Tally → Type 0) (n k : ℕ) (os ns : List Tally) → UpTo R n k os ns → length ns ≡ length os
up_to_length R zero k os ns h = ap (λ ts. length ts) h
up_to_length R (suc n) k [] ns h = ap (λ ts. length ts) h
up_to_length R (suc n) k (o ∷ os) [] h = absurd h
up_to_length R (suc n) k (o ∷ os) (t ∷ ns) h = ap suc (up_to_length R n (k + 1) os ns h.1)

-- the next tally is unchanged
pub up_to_next : (R : ℕ → Tally → Tally → Type 0) (n k : ℕ) (os ns : List Tally) (d : Tally) → UpTo R n k os ns → get_or ns n d ≡ get_or os n d
up_to_next R zero k os ns d h = ap (λ ts. get_or ts 0 d) h
up_to_next R (suc n) k [] ns d h = ap (λ ts. get_or ts (suc n) d) h
up_to_next R (suc n) k (o ∷ os) [] d h = absurd h
up_to_next R (suc n) k (o ∷ os) (t ∷ ns) d h = up_to_next R n (k + 1) os ns d h.1

-- after it one more tally has changed
pub up_to_more : (R : ℕ → Tally → Tally → Type 0) (n k : ℕ) (os ns : List Tally) (d x : Tally) → UpTo R n k os ns → n < length os → R (k + n) (get_or os n d) x
    → UpTo R (suc n) k os (set ns n x)
up_to_more R zero k [] ns d x h less r = absurd (omega (arith, less))
up_to_more R zero k (o ∷ os) [] d x h less r = absurd (cc)
up_to_more R zero k (o ∷ os) (t ∷ ns) d x h less r = let here : k + 0 ≡ k = omega arith in (subst (λ j. R j o x) here r, ap (λ ts. drop 1 ts) h)
up_to_more R (suc n) k [] ns d x h less r = absurd (omega (arith, less))
up_to_more R (suc n) k (o ∷ os) [] d x h less r = absurd h
up_to_more R (suc n) k (o ∷ os) (t ∷ ns) d x h less r =
    let there : k + suc n ≡ k + 1 + n = omega arith in
    (h.0, up_to_more R n (k + 1) os ns d x h.1 (omega (arith, less)) (subst (λ j. R j (get_or os n d) x) there r))

-- the values of child k that come from values of the parent were counted
abbrev pub Gives : Form → List PlainValue → Bool → ℕ → Tally → Tally → Type 0
Gives form values within k old new = Adds (child_column form k values) old new within

-- if the first n children were counted, and the next tally is another one, the held totals are unchanged
pub held_so_far : (form : Form) (values : List PlainValue) (n k : ℕ) (os ns : List Tally) (f : Form) (fields : FieldTree) (j : ℕ) (raw : List PlainValue) → UpTo (Gives form values true) n k os ns
    → AreCounted false f fields j raw os → AreCounted false f fields j raw ns
held_so_far form values zero k os ns f fields j raw h c = subst (AreCounted false f fields j raw) (sym h) c
held_so_far form values (suc n) k [] ns f fields j raw h c = subst (AreCounted false f fields j raw) (sym h) c
held_so_far form values (suc n) k (o ∷ os) [] f fields j raw h c = absurd h
held_so_far form values (suc n) k (o ∷ os) (t ∷ ns) f none j raw h c = absurd c
held_so_far form values (suc n) k (o ∷ os) (t ∷ ns) f (more head children rest) j raw h c =
    let own = h.0.held (record { head = head; children = children }) (child_column f j raw) (record { form = c.0; own = c.1; below = c.2 }) in
    (own.form, own.own, own.below, held_so_far form values n (k + 1) os ns f rest (j + 1) raw h.1 c.3)

-- they are also unchanged if the next child was counted, whether or not to the end
pub held_broken : (form : Form) (values : List PlainValue) (n k : ℕ) (os ns : List Tally) (d x : Tally) (f : Form) (fields : FieldTree) (j : ℕ) (raw : List PlainValue) → UpTo (Gives form values true) n k os ns
    → n < length os → Gives form values false (k + n) (get_or os n d) x → AreCounted false f fields j raw os → AreCounted false f fields j raw (set ns n x)
held_broken form values zero k [] ns d x f fields j raw h less r c = absurd (omega (arith, less))
held_broken form values zero k (o ∷ os) [] d x f fields j raw h less r c = absurd (cc)
held_broken form values zero k (o ∷ os) (t ∷ ns) d x f none j raw h less r c = absurd c
held_broken form values zero k (o ∷ os) (t ∷ ns) d x f (more head children rest) j raw h less r c =
    let own = r.held (record { head = head; children = children }) (child_column f j raw) (record { form = c.0; own = c.1; below = c.2 }) in
    (own.form, own.own, own.below, subst (AreCounted false f rest (j + 1) raw) (sym (ap (λ ts. drop 1 ts) h)) c.3)
held_broken form values (suc n) k [] ns d x f fields j raw h less r c = absurd (omega (arith, less))
held_broken form values (suc n) k (o ∷ os) [] d x f fields j raw h less r c = absurd h
held_broken form values (suc n) k (o ∷ os) (t ∷ ns) d x f none j raw h less r c = absurd c
held_broken form values (suc n) k (o ∷ os) (t ∷ ns) d x f (more head children rest) j raw h less r c =
    let there : k + suc n ≡ k + 1 + n = omega arith in
    let own = h.0.held (record { head = head; children = children }) (child_column f j raw) (record { form = c.0; own = c.1; below = c.2 }) in
    (own.form, own.own, own.below, held_broken form values n (k + 1) os ns d x f rest (j + 1) raw h.1 (omega (arith, less)) (subst (λ m. Gives form values false m (get_or os n d) x) there r) c.3)

-- if all children were counted, their tallies are those of more values of the parent
pub next_below : (form : Form) (values : List PlainValue) (n k : ℕ) (os ns : List Tally) (fields : FieldTree) (raw : List PlainValue) → UpTo (Gives form values true) n k os ns → length os ≤ n
    → AreCounted true form fields k raw os → AreCounted true form fields k (raw ++ values) ns
next_below form values zero k [] [] none raw h less c = tt
next_below form values zero k [] [] (more head children rest) raw h less c = absurd c
next_below form values zero k [] (t ∷ ns) fields raw h less c = absurd (cc)
next_below form values zero k (o ∷ os) ns fields raw h less c = absurd (omega (arith, less))
next_below form values (suc n) k [] [] none raw h less c = tt
next_below form values (suc n) k [] [] (more head children rest) raw h less c = absurd c
next_below form values (suc n) k [] (t ∷ ns) fields raw h less c = absurd (cc)
next_below form values (suc n) k (o ∷ os) [] fields raw h less c = absurd h
next_below form values (suc n) k (o ∷ os) (t ∷ ns) none raw h less c = absurd c
next_below form values (suc n) k (o ∷ os) (t ∷ ns) (more head children rest) raw h less c =
    let field : FieldShape = record { head = head; children = children } in
    let own = subst (λ xs. IsCounted true field xs t) (sym (column_append form k raw values)) (h.0.next refl field (child_column form k raw) (record { form = c.0; own = c.1; below = c.2 })) in
    (own.form, own.own, own.below, next_below form values n (k + 1) os ns rest raw h.1 (omega (arith, less)) c.3)

-- if one child was not counted to the end, the parent's values are too many
pub past_below : (form : Form) (values : List PlainValue) (n k : ℕ) (os : List Tally) (d x : Tally) (fields : FieldTree) (raw : List PlainValue) → n < length os
    → Gives form values false (k + n) (get_or os n d) x → AreCounted true form fields k raw os → AllBelow IsShortNode form fields k (raw ++ values) → ⊥
past_below form values n k [] d x fields raw less r c w = omega (arith, less)
past_below form values n k (o ∷ os) d x none raw less r c w = c
past_below form values zero k (o ∷ os) d x (more head children rest) raw less r c w =
    let here : k + 0 ≡ k = omega arith in
    let field : FieldShape = record { head = head; children = children } in
    let given = subst (λ m. Gives form values false m o x) here r in
    given.past refl field (child_column form k raw) (record { form = c.0; own = c.1; below = c.2 })
    (subst (AllNodes IsShortNode field) (column_append form k raw values) (w.0, w.1))
past_below form values (suc n) k (o ∷ os) d x (more head children rest) raw less r c w =
    let there : k + suc n ≡ k + 1 + n = omega arith in
    past_below form values n (k + 1) os d x rest raw (omega (arith, less)) (subst (λ m. Gives form values false m (get_or os n d) x) there r) c.3 w.2

-- the children are no deeper
depth_so_far : (form : Form) (values : List PlainValue) (n k : ℕ) (os ns : List Tally) → UpTo (Gives form values true) n k os ns → most size-Tally ns ≤ most size-Tally os
depth_so_far form values zero k os ns h = omega (arith, ap (λ ts. most size-Tally ts) h)
depth_so_far form values (suc n) k [] ns h = omega (arith, ap (λ ts. most size-Tally ts) h)
depth_so_far form values (suc n) k (o ∷ os) [] h = absurd h
depth_so_far form values (suc n) k (o ∷ os) (t ∷ ns) h = omega (arith, h.0.depth, depth_so_far form values n (k + 1) os ns h.1)

depth_broken : (form : Form) (values : List PlainValue) (n k : ℕ) (os ns : List Tally) (d x : Tally) → UpTo (Gives form values true) n k os ns → n < length os
    → Gives form values false (k + n) (get_or os n d) x → most size-Tally (set ns n x) ≤ most size-Tally os
depth_broken form values zero k [] ns d x h less r = absurd (omega (arith, less))
depth_broken form values zero k (o ∷ os) [] d x h less r = absurd (cc)
depth_broken form values zero k (o ∷ os) (t ∷ ns) d x h less r = omega (arith, r.depth, ap (λ ts. most size-Tally (drop 1 ts)) h)
depth_broken form values (suc n) k [] ns d x h less r = absurd (omega (arith, less))
depth_broken form values (suc n) k (o ∷ os) [] d x h less r = absurd h
depth_broken form values (suc n) k (o ∷ os) (t ∷ ns) d x h less r =
    let there : k + suc n ≡ k + 1 + n = omega arith in
    omega (arith, h.0.depth, depth_broken form values n (k + 1) os ns d x h.1 (omega (arith, less)) (subst (λ m. Gives form values false m (get_or os n d) x) there r))

-- the depth of a tally is one more than that of the deepest tally below it
pub tally_depth : (t : Tally) → size-Tally t ≡ most size-Tally (out-Tally t).below.items + 1
tally_depth t = omega (arith, size_is-Tally t)

-- the children are counted if each of them is
pub all_given : (form : Form) (values : List PlainValue) (n : ℕ) (os ns : List Tally) → UpTo (Gives form values true) n 0 os ns → length os ≤ n → AddsBelow form values os ns true
all_given form values n os ns h less = record {
  depth = depth_so_far form values n 0 os ns h;
  held = λ fields k raw f c. held_so_far form values n 0 os ns f fields k raw h c;
  next = λ _ fields raw c. next_below form values n 0 os ns fields raw h less c;
  past = λ no. absurd (false≢true (sym no));
}

-- they are not if one of them is not
pub one_past : (form : Form) (values : List PlainValue) (n : ℕ) (os ns : List Tally) (d x : Tally) → UpTo (Gives form values true) n 0 os ns → n < length os → Gives form values false n (get_or os n d) x
    → AddsBelow form values os (set ns n x) false
one_past form values n os ns d x h less r =
    let given = subst (λ m. Gives form values false m (get_or os n d) x) (let here : n ≡ 0 + n = omega arith in here) r in
    record {
      depth = depth_broken form values n 0 os ns d x h less given;
      held = λ fields k raw f c. held_broken form values n 0 os ns d x f fields k raw h less given c;
      next = λ yes. absurd (false≢true yes);
      past = λ _ fields raw c w. past_below form values n 0 os d x fields raw less given c w;
    }

-- the totals of some tallies are all settled if those of each are
pub all_settled : (next : Bool) (n k : ℕ) (os ns : List Tally) (form : Form) (fields : FieldTree) (j : ℕ) (raw : List PlainValue) → UpTo (λ _. Settles next) n k os ns → length os ≤ n
    → AreCounted next form fields j raw os → AreCounted false form fields j raw ns × AreCounted true form fields j raw ns
all_settled next zero k [] [] form none j raw h less c = (tt, tt)
all_settled next zero k [] [] form (more head children rest) j raw h less c = absurd c
all_settled next zero k [] (t ∷ ns) form fields j raw h less c = absurd (cc)
all_settled next zero k (o ∷ os) ns form fields j raw h less c = absurd (omega (arith, less))
all_settled next (suc n) k [] [] form none j raw h less c = (tt, tt)
all_settled next (suc n) k [] [] form (more head children rest) j raw h less c = absurd c
all_settled next (suc n) k [] (t ∷ ns) form fields j raw h less c = absurd (cc)
all_settled next (suc n) k (o ∷ os) [] form fields j raw h less c = absurd h
all_settled next (suc n) k (o ∷ os) (t ∷ ns) form none j raw h less c = absurd c
all_settled next (suc n) k (o ∷ os) (t ∷ ns) form (more head children rest) j raw h less c =
    let own = h.0 (record { head = head; children = children }) (child_column form j raw) (record { form = c.0; own = c.1; below = c.2 }) in
    let others = all_settled next n (k + 1) os ns form rest (j + 1) raw h.1 (omega (arith, less)) c.3 in
    ((own.0.form, own.0.own, own.0.below, others.0), (own.1.form, own.1.own, own.1.below, others.1))

-- one more tally, of a field without values
pub nothing_more : (form : Form) (fields : List FieldShape) (field : FieldShape) (k : ℕ) (ts : List Tally) (t : Tally) → AreCounted false form (fields_of fields) k [] ts
    → IsCounted false field [] t → AreCounted false form (fields_of (fields ++ field ∷ [])) k [] (ts ++ t ∷ [])
nothing_more form [] field k [] t c h =
    let own = subst (λ xs. IsCounted false field xs t) (sym (column_of_none form k)) h in
    (own.form, own.own, own.below, tt)
nothing_more form [] field k (o ∷ os) t c h = absurd c
nothing_more form (f ∷ fields) field k [] t c h = absurd c
nothing_more form (f ∷ fields) field k (o ∷ os) t c h = (c.0, c.1, c.2, nothing_more form fields field (k + 1) os t c.3 h)

-- values were counted in a column, and what they contribute to the columns below it
pub adds_value : (t new : Tally) (values : List PlainValue) (total : Total) (news : List Tally) (within : Bool) → Grows (out-Tally t).form values (out-Tally t).next (Some total)
    → AddsBelow (out-Tally t).form values (out-Tally t).below.items news within
    → (out-Tally new).form ≡ (out-Tally t).form → (out-Tally new).held ≡ (out-Tally t).held → (out-Tally new).next ≡ total → (out-Tally new).below.items ≡ news
    → Adds values t new within
adds_value t new values total news within grows below form held next are = record {
  depth = omega (arith, below.depth, tally_depth t, tally_depth new, ap (λ ts. most size-Tally ts) are);
  held = λ field raw h. record {
    form = form ∙ h.form;
    own = subst (IsTotal (field_form field) raw) (sym held) h.own;
    below = subst (AreCounted false (field_form field) field.children 0 raw) (sym are) (below.held field.children 0 raw (field_form field) h.below);
  };
  next = λ yes field raw h. record {
    form = form ∙ h.form;
    own = subst (IsTotal (field_form field) (raw ++ values)) (sym next) (subst (λ f. Grows f values (out-Tally t).next (Some total)) h.form grows raw h.own);
    below = subst (AreCounted true (field_form field) field.children 0 (raw ++ values)) (sym are)
        ((subst (λ f. AddsBelow f values (out-Tally t).below.items news within) h.form below).next yes field.children raw h.below);
  };
  past = λ no field raw h w. (subst (λ f. AddsBelow f values (out-Tally t).below.items news within) h.form below).past no field.children raw h.below w.1;
}

-- they are too many in their own column
pub adds_too_many : (t : Tally) (values : List PlainValue) → Grows (out-Tally t).form values (out-Tally t).next None → Adds values t t false
adds_too_many t values grows = record {
  depth = omega arith;
  held = λ field raw h. h;
  next = λ yes. absurd (false≢true yes);
  past = λ _ field raw h w. subst (λ f. Grows f values (out-Tally t).next None) h.form grows raw h.own w.0;
}

-- the values with the next one
view_next : (xs : List Value) (i : ℕ) (d : Value) → i < length xs → take i (values_view xs) ++ value_view (get_or xs i d) ∷ [] ≡ take (suc i) (values_view xs)
view_next [] i d h = absurd (omega (arith, h))
view_next (x ∷ xs) zero d h = refl
view_next (x ∷ xs) (suc i) d h = ap (λ vs. value_view x ∷ vs) (view_next xs i d (omega (arith, h)))

-- one more of some values was counted
pub adds_next : (xs : List Value) (i : ℕ) (d : Value) (a b c : Tally) → i < length xs → Adds (take i (values_view xs)) a b true → Adds (value_view (get_or xs i d) ∷ []) b c true
    → Adds (take (i + 1) (values_view xs)) a c true
adds_next xs i d a b c h some one =
    let next : suc i ≡ i + 1 = omega arith in
    subst (λ vs. Adds vs a c true) (view_next xs i d h ∙ ap (λ n. take n (values_view xs)) next)
    (adds_then (take i (values_view xs)) (value_view (get_or xs i d) ∷ []) a b c true some one)

-- or was one too many
pub adds_stopped : (xs : List Value) (i : ℕ) (d : Value) (a b c : Tally) → i < length xs → Adds (take i (values_view xs)) a b true → Adds (value_view (get_or xs i d) ∷ []) b c false
    → Adds (values_view xs) a c false
adds_stopped xs i d a b c h some one =
    subst (λ vs. Adds vs a c false) (ap (λ vs. vs ++ drop (suc i) (values_view xs)) (view_next xs i d h) ∙ take-append-drop (suc i) (values_view xs))
    (adds_past (take i (values_view xs) ++ value_view (get_or xs i d) ∷ []) (drop (suc i) (values_view xs)) a c
    (adds_then (take i (values_view xs)) (value_view (get_or xs i d) ∷ []) a b c false some one))

-- what nulls of lists contribute to the child if offsets are stored
pub offsets_of_nulls : (width : OffsetWidth) (count : ℕ) → all_items (lists.Offsets width) (replicate count null_value) ≡ []
offsets_of_nulls width zero = refl
offsets_of_nulls width (suc count) = offsets_of_nulls width count

-- and in fixed-size lists
pub sized_of_nulls : (size count : ℕ) → all_items (lists.Fixed size) (replicate count null_value) ≡ replicate (count * size) null_value
sized_of_nulls size zero = let nothing : 0 ≡ 0 * size = omega arith in ap (λ n. replicate n null_value) nothing
sized_of_nulls size (suc count) =
    let steps : size + count * size ≡ suc count * size = grind arith in
    ap (λ vs. replicate size null_value ++ vs) (sized_of_nulls size count) ∙ replicate-append-replicate size (count * size) null_value ∙ ap (λ n. replicate n null_value) steps

-- nulls of structs give a null to each child
pub structs_of_nulls : (k count : ℕ) → map (field_value k) (replicate count null_value) ≡ replicate count null_value
structs_of_nulls k zero = refl
structs_of_nulls k (suc count) = ap (λ vs. null_value ∷ vs) (structs_of_nulls k count)

-- a column of another form has no children
pub other_column : (form : Form) (k : ℕ) (raw : List PlainValue) → ((list : ListForm) → form ≡ forms.Lists list → ⊥) → (form ≡ forms.Structs → ⊥) → child_column form k raw ≡ []
other_column forms.Nulls k raw no_lists no_structs = refl
other_column forms.Bits k raw no_lists no_structs = refl
other_column (forms.Numbers number) k raw no_lists no_structs = refl
other_column (forms.Bytes width) k raw no_lists no_structs = refl
other_column (forms.Texts width) k raw no_lists no_structs = refl
other_column (forms.FixedBytes width) k raw no_lists no_structs = refl
other_column (forms.Lists list) k raw no_lists no_structs = absurd (no_lists list refl)
other_column forms.Structs k raw no_lists no_structs = absurd (no_structs refl)

-- more nulls than a column has slots are too many
pub nulls_past : (count : ℕ) (t : Tally) → 2147483647 < count → Adds (replicate count null_value) t t false
nulls_past count t many = record {
  depth = omega arith;
  held = λ field raw h. h;
  next = λ yes. absurd (false≢true yes);
  past = λ _ field raw h w. omega (arith, many, w.0.few, length-append raw (replicate count null_value), length-replicate count null_value);
}
