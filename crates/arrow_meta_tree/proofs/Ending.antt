-- Where reading a row ends, and where reading a spot ends.
use Rattle.std.proofs.Common.{◌≡◌, ℕ, zero, suc, ◌-◌, ◌<◌, ◌≤◌, Bool, false, List, [], ◌∷◌, Option, Some, None, option_map, slice_get, refl, sym, ap, subst, ◌∙◌, arith}
use Rattle.arrow_flatbuf.specs.Place.{past}
use Rattle.arrow_flatbuf.specs.Table.{table_at}
use Rattle.arrow_meta_tree.specs.Reads.{Ends, RowEnds, ends_unreadable, ends_long, ends_refused, ends_first, ends_unkept, ends_later, Faulty}
use Rattle.arrow_meta_tree.specs.Grows.{TakesMemory}
use Rattle.arrow_meta_tree.specs.Kinds.{Spot, opened, spots_of}
use Rattle.arrow_meta_tree.specs.Lies.{layer, layer_at, leaf_layer, table_layer}
use Rattle.arrow_meta_tree.specs.Trees.{Leaf, Tree, Trees, none, more}
use Rattle.arrow_meta_tree.specs.Within.{visits, visits_all, entries, entries_all, text_bytes, text_bytes_all, text_length, Room, Spends}
use Rattle.arrow_meta_tree.specs.declared.fault.MetaFault.{MetaFault}
use Rattle.arrow_meta_tree.specs.declared.fault.MetaFault.TheVariants.{Metadata, Memory}
use Rattle.arrow_meta_tree.specs.declared.kinds.FieldForm.{FieldForm}
use Rattle.arrow_meta_tree.specs.declared.kinds.FieldForm.TheVariants as forms
use Rattle.arrow_meta_tree.specs.declared.kinds.TableKind.{TableKind}
use Rattle.arrow_meta_tree.proofs.Layers.{layer_there}
use Rattle.arrow_meta_tree.proofs.Rows.{Done, unspent}

-- the room that is left after a tree
abbrev after : Room → Tree → Room
after room x = record { visits = room.visits - visits x; entries = room.entries - entries x; text = room.text - text_bytes x }

-- the first tree of a row that was paid for
first_paid : (old mid : Room) (y : Tree) (ys : Trees) → Spends old mid (visits_all (more y ys)) (entries_all (more y ys)) (text_bytes_all (more y ys)) →
    Spends old (after old y) (visits y) (entries y) (text_bytes y)
first_paid old mid y ys paid = record {
  visits_paid = omega (arith, paid.visits_paid);
  entries_paid = omega (arith, paid.entries_paid);
  text_paid = omega (arith, paid.text_paid);
}

-- and its later ones
later_paid : (old mid : Room) (y : Tree) (ys : Trees) → Spends old mid (visits_all (more y ys)) (entries_all (more y ys)) (text_bytes_all (more y ys)) →
    Spends (after old y) mid (visits_all ys) (entries_all ys) (text_bytes_all ys)
later_paid old mid y ys paid = record {
  visits_paid = omega (arith, paid.visits_paid);
  entries_paid = omega (arith, paid.entries_paid);
  text_paid = omega (arith, paid.text_paid);
}

-- the rest of a row, as it was read
later_done : (bytes : List ℕ) (r : Spot) (rs : List Spot) (most : ℕ) (old mid : Room) (i : ℕ) (y : Tree) (ys : Trees) → Done bytes (r ∷ rs) most old mid (suc i) (more y ys) →
    Done bytes rs most (after old y) mid i ys
later_done bytes r rs most old mid i y ys d = record { lie = d.lie.1; deep = omega (arith, d.deep); paid = later_paid old mid y ys d.paid }

-- If reading ends at the next spot, it ends there in the row.
pub row_ends : (bytes : List ℕ) (v : Bool) (e : MetaFault) (ss : List Spot) (most : ℕ) (old mid new : Room) (i : ℕ) (s : Spot) (xs : Trees) →
    Done bytes ss most old mid i xs → slice_get ss i ≡ Some s → Ends bytes v e s most mid new → RowEnds bytes v e ss most old new
row_ends bytes v e [] most old mid new i s xs d at h = absurd (cc)
row_ends bytes v e (r ∷ rs) most old mid new zero s (more y ys) d at h = absurd d.lie
row_ends bytes v e (r ∷ rs) most old mid new zero s none d at h =
    let same : s ≡ r = cc in
    let here : Ends bytes v e r most mid new = subst (λ t. Ends bytes v e t most mid new) same h in
    ends_first (subst (λ left. Ends bytes v e r most left new) (unspent old mid d.paid) here)
row_ends bytes v e (r ∷ rs) most old mid new (suc i) s none d at h = absurd d.lie
row_ends bytes v e (r ∷ rs) most old mid new (suc i) s (more y ys) d at h =
    ends_later y d.lie.0 (omega (arith, d.deep)) (first_paid old mid y ys d.paid)
    (row_ends bytes v e rs most (after old y) mid new i s ys (later_done bytes r rs most old mid i y ys d) at h)

-- If an allocation to keep the tree that was read fails, reading ends in the row.
pub row_unkept : (bytes : List ℕ) (v : Bool) (ss : List Spot) (most : ℕ) (old new : Room) (i : ℕ) (s : Spot) (xs : Trees) →
    Done bytes ss most old new (suc i) xs → slice_get ss i ≡ Some s → RowEnds bytes v Memory ss most old new
row_unkept bytes v [] most old new i s xs d at = absurd (cc)
row_unkept bytes v (r ∷ rs) most old new i s none d at = absurd d.lie
row_unkept bytes v (r ∷ rs) most old new (suc i) s (more y ys) d at =
    ends_later y d.lie.0 (omega (arith, d.deep)) (first_paid old new y ys d.paid)
    (row_unkept bytes v rs most (after old y) new i s ys (later_done bytes r rs most old new (suc i) y ys d) at)
row_unkept bytes v (r ∷ rs) most old new zero s (more y none) d at =
    ends_unkept y d.lie.0 (omega (arith, d.deep)) (record {
      visits_paid = omega (arith, d.paid.visits_paid);
      entries_paid = omega (arith, d.paid.entries_paid);
      text_paid = omega (arith, d.paid.text_paid);
    })
row_unkept bytes v (r ∷ rs) most old new zero s (more y (more z zs)) d at = absurd d.lie.1

-- a field of a form that is present and not readable
pub ends_there : (bytes : List ℕ) (form : FieldForm) (place : Option ℕ) (most : ℕ) (room : Room) (p : ℕ) → place ≡ Some p → layer_at bytes form p ≡ None →
    Ends bytes false Metadata (record { form = form; place = place }) most room room
ends_there bytes form place most room p e f = ends_unreadable (layer_there bytes form place p e ∙ f)

-- an opened table that is present and not readable
pub ends_child : (bytes : List ℕ) (opens : Option TableKind) (kind : TableKind) (place : Option ℕ) (most : ℕ) (room : Room) (p : ℕ) → opens ≡ Some kind → place ≡ Some p → past table_at bytes p ≡ None →
    Ends bytes false Metadata (opened opens place) most room room
ends_child bytes opens kind place most room p o e f =
    let P : Option TableKind → Type 0 = λ k. Ends bytes false Metadata (opened k place) most room room in
    subst P (sym o) (ends_there bytes (forms.Table kind) place most room p e (ap (option_map (λ t. table_layer kind (spots_of kind t))) f))

-- a text or a string of n bytes that was not copied
pub ends_copy : (bytes : List ℕ) (s : Spot) (x : Leaf) (n : ℕ) (most : ℕ) (old new : Room) (e : MetaFault) → n ≡ text_length x → (text_length x ≤ old.text → TakesMemory x old) → layer bytes s ≡ Some (leaf_layer x) →
    Faulty e (old.text < n) (n ≤ old.text) → Faulty e (new ≡ old) (Spends old new 0 0 n) → Ends bytes false e s most old new
ends_copy bytes s x n most old new Metadata long takes l short kept =
    let here : Ends bytes false Metadata s most old old = ends_long x l (omega (arith, long, short)) in
    subst (λ left. Ends bytes false Metadata s most old left) (sym kept) here
ends_copy bytes s x n most old new Memory long takes l fits paid = ends_refused x l (takes (omega (arith, long, fits))) (subst (λ t. Spends old new 0 0 t) long paid)
ends_copy bytes s x n most old new fault long takes l a b = absurd a

-- Spending nothing leaves the room as it is.
pub nothing_spent : (room : Room) → Spends room room 0 0 0
nothing_spent room = record { visits_paid = omega arith; entries_paid = omega arith; text_paid = omega arith }

-- the spot of an opened table that is present
pub opened_spot : (opens : Option TableKind) (kind : TableKind) (place : Option ℕ) (p : ℕ) → opens ≡ Some kind → place ≡ Some p → opened opens place ≡ record { form = forms.Table kind; place = Some p }
opened_spot opens kind place p o e = rw (o, e) refl
