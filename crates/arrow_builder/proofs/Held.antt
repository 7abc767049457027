-- Children that begin with their columns.
use Rattle.std.proofs.Common.{◌≡◌, ℕ, ◌+◌, ◌≤◌, List, [], ◌∷◌, ◌++◌, length, map, take, drop, refl, ap, sym, ◌∙◌, subst, arith, length-append, inl, inr}
use Rattle.std.proofs.lemmas.Bool.{cases_lt}
use Rattle.std.proofs.lemmas.List.{append-nil, append_assoc, length-map, map-append, take-append-drop, take-append-le, take-take, take_all}
use Rattle.std.proofs.Math.Seq.{take-append_seam}
use Rattle.arrow_layout.specs.Layout.{list_offsets}
use Rattle.arrow_layout.specs.PlainValue.{PlainValue, field_value}
use Rattle.arrow_data.specs.Same.{Begins}
use Rattle.arrow_layout.specs.Slots.{item_place}
use Rattle.arrow_layout.specs.declared.form.Form.{Form}
use Rattle.arrow_layout.specs.declared.form.Form.TheVariants as forms
use Rattle.arrow_layout.specs.declared.form.ListForm.{ListForm}
use Rattle.arrow_layout.specs.declared.form.ListForm.TheVariants as lists
use Rattle.arrow_builder.specs.Buffers.{IsLeaf}
use Rattle.arrow_builder.specs.Built.{Built, cut_to, given_items, with_parts}
use Rattle.arrow_builder.specs.Columns.{AreHeld, all_items, child_column}
use Rattle.arrow_builder.specs.Kept.{CountsItems, Keeps, KeepsLists}

-- the items of more lists
pub all_items_append : (list : ListForm) (xs ys : List PlainValue) → all_items list (xs ++ ys) ≡ all_items list xs ++ all_items list ys
all_items_append list [] ys = refl
all_items_append list (x ∷ xs) ys = ap (λ vs. given_items list x ++ vs) (all_items_append list xs ys) ∙ sym (append_assoc (given_items list x) (all_items list xs) (all_items list ys))

-- the column of a child by more values
pub column_append : (form : Form) (k : ℕ) (xs ys : List PlainValue) → child_column form k (xs ++ ys) ≡ child_column form k xs ++ child_column form k ys
column_append forms.Nulls k xs ys = refl
column_append forms.Bits k xs ys = refl
column_append (forms.Numbers number) k xs ys = refl
column_append (forms.Bytes width) k xs ys = refl
column_append (forms.Texts width) k xs ys = refl
column_append (forms.FixedBytes width) k xs ys = refl
column_append (forms.Lists list) k xs ys = all_items_append list xs ys
column_append forms.Structs k xs ys = map-append (field_value k) xs ys

-- the column of a child by no values
pub column_of_none : (form : Form) (k : ℕ) → child_column form k [] ≡ []
column_of_none forms.Nulls k = refl
column_of_none forms.Bits k = refl
column_of_none (forms.Numbers number) k = refl
column_of_none (forms.Bytes width) k = refl
column_of_none (forms.Texts width) k = refl
column_of_none (forms.FixedBytes width) k = refl
column_of_none (forms.Lists list) k = refl
column_of_none forms.Structs k = refl

-- the column of a child of a node without children
pub leaf_column : (form : Form) (k : ℕ) (raw : List PlainValue) → IsLeaf form → child_column form k raw ≡ []
leaf_column forms.Nulls k raw leaf = refl
leaf_column forms.Bits k raw leaf = refl
leaf_column (forms.Numbers number) k raw leaf = refl
leaf_column (forms.Bytes width) k raw leaf = refl
leaf_column (forms.Texts width) k raw leaf = refl
leaf_column (forms.FixedBytes width) k raw leaf = refl
leaf_column (forms.Lists list) k raw leaf = absurd leaf
leaf_column forms.Structs k raw leaf = absurd leaf

-- values begin with themselves
pub begins_self : (xs : List PlainValue) → Begins xs xs
begins_self xs = take_all (length xs) xs (omega arith)

-- and with each prefix of what they begin with
pub begins_front : (p q xs : List PlainValue) → Begins (p ++ q) xs → Begins p xs
begins_front p q xs h =
    let long = length-append p q in
    sym (take-take (length p) (length (p ++ q)) xs (omega (arith, long))) ∙ ap (take (length p)) h ∙ take-append_seam p q

-- children with empty columns begin with them
nothing_held : (form : Form) (k : ℕ) (raw : List PlainValue) (bs : List Built) → ((j : ℕ) → child_column form j raw ≡ []) → AreHeld form k raw bs
nothing_held form k raw [] none = tt
nothing_held form k raw (b ∷ bs) none = (subst (λ p. Begins p b.raw) (sym (none k)) refl, nothing_held form (k + 1) raw bs none)

-- so do the children of no values
pub held_none : (form : Form) (bs : List Built) → AreHeld form 0 [] bs
held_none form bs = nothing_held form 0 [] bs (λ j. column_of_none form j)

-- so do the children of a node that has none
pub held_leaf : (form : Form) (raw : List PlainValue) (bs : List Built) → IsLeaf form → AreHeld form 0 raw bs
held_leaf form raw bs leaf = nothing_held form 0 raw bs (λ j. leaf_column form j raw leaf)

-- the children of fewer values
held_front : (form : Form) (k : ℕ) (xs ys : List PlainValue) (bs : List Built) → AreHeld form k (xs ++ ys) bs → AreHeld form k xs bs
held_front form k xs ys [] h = tt
held_front form k xs ys (b ∷ bs) h =
    (begins_front (child_column form k xs) (child_column form k ys) b.raw (subst (λ p. Begins p b.raw) (column_append form k xs ys) h.0), held_front form (k + 1) xs ys bs h.1)

pub held_take : (form : Form) (at : ℕ) (raw : List PlainValue) (bs : List Built) → AreHeld form 0 raw bs → AreHeld form 0 (take at raw) bs
held_take form at raw bs h = held_front form 0 (take at raw) (drop at raw) bs (subst (λ vs. AreHeld form 0 vs bs) (sym (take-append-drop at raw)) h)

-- values that are the same up to an index at or past the end of what they begin with
begins_cut : (at : ℕ) (p xs ys : List PlainValue) → length p ≤ at → take at xs ≡ take at ys → Begins p ys → Begins p xs
begins_cut at p xs ys short same h = sym (take-take (length p) at xs short) ∙ ap (take (length p)) same ∙ take-take (length p) at ys short ∙ h

-- the first column, and the others
abbrev first_or : Built → List Built → Built
first_or d [] = d
first_or d (b ∷ bs) = b

abbrev others_of : List Built → List Built
others_of [] = []
others_of (b ∷ bs) = bs

-- children that are the same up to an index at or past the end of their columns
pub held_cut : (form : Form) (k at : ℕ) (raw : List PlainValue) (new old : List Built) → ((j : ℕ) → length (child_column form j raw) ≤ at)
    → map (cut_to at) new ≡ map (cut_to at) old → AreHeld form k raw old → AreHeld form k raw new
held_cut form k at raw [] old short same h = tt
held_cut form k at raw (n ∷ new) [] short same h = absurd (cc)
held_cut form k at raw (n ∷ new) (o ∷ old) short same h = (
  begins_cut at (child_column form k raw) n.raw o.raw (short k) (ap (λ bs. (first_or o bs).raw) same) h.0,
  held_cut form (k + 1) at raw new old short (ap others_of same) h.1,
)

-- one more struct
pub held_struct : (k at : ℕ) (raw : List PlainValue) (bs : List Built) (v : PlainValue) → length raw ≡ at → AreHeld forms.Structs k raw bs
    → AreHeld forms.Structs k (raw ++ v ∷ []) (with_parts k at bs v)
held_struct k at raw [] v long h = tt
held_struct k at raw (b ∷ bs) v long h =
    let count : at ≡ length (map (field_value k) raw) = omega (arith, long, length-map raw (field_value k)) in
    let own : take at b.raw ++ field_value k v ∷ [] ≡ map (field_value k) (raw ++ v ∷ []) =
    ap (λ vs. vs ++ field_value k v ∷ []) (ap (λ n. take n b.raw) count ∙ h.0) ∙ sym (map-append (field_value k) raw (v ∷ [])) in
    (subst (Begins (map (field_value k) (raw ++ v ∷ []))) (sym own) (begins_self (map (field_value k) (raw ++ v ∷ []))), held_struct (k + 1) at raw bs v long h.1)

-- the items with those of one more list
pub items_grown : (list : ListForm) (start : ℕ) (raw child values : List PlainValue) (v : PlainValue) → start ≡ length (all_items list raw) → Begins (all_items list raw) child
    → values ≡ given_items list v → take start child ++ values ≡ all_items list (raw ++ v ∷ [])
items_grown list start raw child values v count held items =
    let added : values ≡ given_items list v ++ [] = items ∙ sym (append-nil (given_items list v)) in
    (λ i. (ap (λ n. take n child) count ∙ held) i ++ added i) ∙ sym (all_items_append list raw (v ∷ []))

-- the offsets of fewer lists
pub counted_take : (form : Form) (at len : ℕ) (b : List (List ℕ)) (raw : List PlainValue) → at ≤ len → CountsItems form len b raw → CountsItems form at b (take at raw)
counted_take forms.Nulls at len b raw le h = tt
counted_take forms.Bits at len b raw le h = tt
counted_take (forms.Numbers number) at len b raw le h = tt
counted_take (forms.Bytes width) at len b raw le h = tt
counted_take (forms.Texts width) at len b raw le h = tt
counted_take (forms.FixedBytes width) at len b raw le h = tt
counted_take (forms.Lists list) at len b raw le h = λ j inside. h j (omega (arith, le, inside)) ∙ ap (λ vs. length (all_items list vs)) (sym (take-take j at raw inside))
counted_take forms.Structs at len b raw le h = tt

-- nothing is stated of a node without children
pub counted_leaf : (form : Form) (len : ℕ) (b : List (List ℕ)) (raw : List PlainValue) → IsLeaf form → CountsItems form len b raw
counted_leaf forms.Nulls len b raw leaf = tt
counted_leaf forms.Bits len b raw leaf = tt
counted_leaf (forms.Numbers number) len b raw leaf = tt
counted_leaf (forms.Bytes width) len b raw leaf = tt
counted_leaf (forms.Texts width) len b raw leaf = tt
counted_leaf (forms.FixedBytes width) len b raw leaf = tt
counted_leaf (forms.Lists list) len b raw leaf = absurd leaf
counted_leaf forms.Structs len b raw leaf = absurd leaf

-- one more list
pub counted_grows : (list : ListForm) (at : ℕ) (old new : List ℕ) (raw : List PlainValue) (v : PlainValue) → length raw ≡ at
    → ((j : ℕ) → j ≤ at → item_place list old j ≡ length (all_items list (take j raw))) → ((j : ℕ) → j ≤ at → item_place list new j ≡ item_place list old j)
    → item_place list new (at + 1) ≡ length (all_items list (raw ++ v ∷ [])) → (j : ℕ) → j ≤ at + 1 → item_place list new j ≡ length (all_items list (take j (raw ++ v ∷ [])))
counted_grows list at old new raw v long before same end j h = elim (cases_lt j (at + 1)) [ inl low ↦ same j (omega (arith, low)) ∙ before j (omega (arith, low)) ∙ ap (λ vs. length (all_items list vs)) (sym (take-append-le j raw (v ∷ []) (omega (arith, low, long)))) | inr not ↦ last not ]
  where
    last : at + 1 ≤ j → item_place list new j ≡ length (all_items list (take j (raw ++ v ∷ [])))
    last not =
        let here : j ≡ at + 1 = omega (arith, h, not) in
        let whole = take_all j (raw ++ v ∷ []) (omega (arith, here, long, length-append raw (v ∷ []))) in
        ap (item_place list new) here ∙ end ∙ ap (λ vs. length (all_items list vs)) (sym whole)

-- the items of the first list begin at the first slot
first_place : (list : ListForm) (top : ℕ) (validity offsets : List ℕ) → KeepsLists list 0 top validity offsets → item_place list offsets 0 ≡ 0
first_place (lists.Offsets width) top validity offsets kept = kept.ranges.zero
first_place (lists.Fixed size) top validity offsets kept = omega arith

-- no lists have no items
pub counted_none : (form : Form) (b : List (List ℕ)) → ((counts : List ℕ) → Keeps form 0 b counts) → CountsItems form 0 b []
counted_none forms.Nulls b kept = tt
counted_none forms.Bits b kept = tt
counted_none (forms.Numbers number) b kept = tt
counted_none (forms.Bytes width) b kept = tt
counted_none (forms.Texts width) b kept = tt
counted_none (forms.FixedBytes width) b kept = tt
counted_none (forms.Lists list) b kept = λ j h.
    let first : j ≡ 0 = omega (arith, h) in
    ap (item_place list (list_offsets list b)) first ∙ first_place list 0 _ (list_offsets list b) (kept []) ∙ ap (λ n. length (all_items list (take n []))) (sym first)
counted_none forms.Structs b kept = tt
