-- What a layer implies for the trees at its spot.
use Rattle.std.proofs.Common.{◌≡◌, ℕ, ◌+◌, ◌<◌, inl, inr, List, Option, Some, None, option_map, refl, sym, ap, subst, ◌∙◌, arith}
use Rattle.arrow_meta_tree.specs.declared.kinds.TableKind.{TableKind}
use Rattle.arrow_meta_tree.specs.declared.kinds.FieldForm.{FieldForm}
use Rattle.arrow_meta_tree.specs.declared.kinds.FieldForm.TheVariants as forms
use Rattle.arrow_flatbuf.specs.Place.{past}
use Rattle.arrow_flatbuf.specs.Table.{table_at, TableAt}
use Rattle.arrow_flatbuf.specs.Vector.{vector_at, VectorAt}
use Rattle.arrow_meta_tree.specs.Kinds.{spots_of, opened}
use Rattle.arrow_meta_tree.specs.Kinds.{Spot}
use Rattle.arrow_meta_tree.specs.Lies.{AllPlaced, layer, layer_at, leaf_layer, table_layer, tables_layer, elements}
use Rattle.arrow_meta_tree.specs.Trees.{Leaf, leaf, table, tables}
use Rattle.arrow_meta_tree.specs.Within.{visit, entry, text_bytes, text_length, Room, Spends}
use Rattle.arrow_meta_tree.specs.Reads.{NoneFits, NoRowFits, LacksRoom}
use Rattle.arrow_meta_tree.proofs.OneTree.{one}

-- the layer of a field that is present
pub layer_there : (bytes : List ℕ) (form : FieldForm) (place : Option ℕ) (p : ℕ) → place ≡ Some p → layer bytes (record { form = form; place = place }) ≡ layer_at bytes form p
unfolding layer
layer_there bytes form place p e = rw e refl

-- No tree is at a spot that has no layer.
pub none_fits : (bytes : List ℕ) (s : Spot) (most : ℕ) (room : Room) → layer bytes s ≡ None → NoneFits bytes s most room
none_fits bytes s most room e (leaf a) h fits = cc
none_fits bytes s most room e (table kind xs) h fits = let f = h.1 in cc
none_fits bytes s most room e (tables xs) h fits = let f = h.1 in cc

-- a leaf that is too long
pub too_long : (bytes : List ℕ) (s : Spot) (a : Leaf) (most : ℕ) (room : Room) → layer bytes s ≡ Some (leaf_layer a) → room.text < text_length a → NoneFits bytes s most room
too_long bytes s a most room e short x h fits =
    let same : x ≡ leaf a = one bytes s x (leaf a) h e in
    omega (arith, ap text_bytes same, fits.text_fits)

-- a table with no room for it
pub no_room : (bytes : List ℕ) (s : Spot) (kind : TableKind) (ss : List Spot) (most : ℕ) (room : Room) → layer bytes s ≡ Some (table_layer kind ss) → LacksRoom room kind most → NoneFits bytes s most room
no_room bytes s kind ss most room e short (leaf a) h fits = cc
no_room bytes s kind ss most room e short (tables xs) h fits = let f = h.1 in cc
no_room bytes s kind ss most room e short (table j xs) h fits =
    let f = h.1 in
    let same : j ≡ kind = cc in
    elim short [
      | inl a ↦ omega (arith, ap visit same, fits.levels_fit)
      | inr (inl a) ↦ omega (arith, ap visit same, fits.visits_fit)
      | inr (inr a) ↦ omega (arith, ap entry same, fits.entries_fit)
    ]

-- a table whose fields do not fit
pub no_fields : (bytes : List ℕ) (s : Spot) (kind : TableKind) (ss : List Spot) (most below : ℕ) (old mid : Room) → layer bytes s ≡ Some (table_layer kind ss) → below + visit kind ≡ most → Spends old mid (visit kind) (entry kind) 0 → NoRowFits bytes ss below mid → NoneFits bytes s most old
no_fields bytes s kind ss most below old mid e a b never (leaf x) h fits = cc
no_fields bytes s kind ss most below old mid e a b never (tables xs) h fits = let f = h.1 in cc
no_fields bytes s kind ss most below old mid e a b never (table j xs) h fits =
    let f = h.1 in
    let same : j ≡ kind = cc in
    let spots : h.0 ≡ ss = cc in
    let P : List Spot → Type 0 = λ ss. AllPlaced bytes ss xs in
    never xs (subst P spots h.2) (record {
      levels_fit = omega (arith, a, ap visit same, fits.levels_fit);
      visits_fit = omega (arith, b.visits_paid, ap visit same, fits.visits_fit);
      entries_fit = omega (arith, b.entries_paid, ap entry same, fits.entries_fit);
      text_fits = omega (arith, b.text_paid, fits.text_fits);
    })

-- a vector whose tables do not fit
pub no_elements : (bytes : List ℕ) (s : Spot) (ss : List Spot) (most : ℕ) (room : Room) → layer bytes s ≡ Some (tables_layer ss) → NoRowFits bytes ss most room → NoneFits bytes s most room
no_elements bytes s ss most room e never (leaf x) h fits = cc
no_elements bytes s ss most room e never (table j xs) h fits = let f = h.1 in cc
no_elements bytes s ss most room e never (tables xs) h fits =
    let f = h.1 in
    let spots : h.0 ≡ ss = cc in
    let P : List Spot → Type 0 = λ ss. AllPlaced bytes ss xs in
    never xs (subst P spots h.2) (record { levels_fit = fits.levels_fit; visits_fit = fits.visits_fit; entries_fit = fits.entries_fit; text_fits = fits.text_fits })

-- a field of a form that is present and not readable
pub unreadable : (bytes : List ℕ) (form : FieldForm) (place : Option ℕ) (most : ℕ) (room : Room) (p : ℕ) → place ≡ Some p → layer_at bytes form p ≡ None → NoneFits bytes (record { form = form; place = place }) most room
unreadable bytes form place most room p e f = none_fits bytes (record { form = form; place = place }) most room (layer_there bytes form place p e ∙ f)

-- an opened table that is present and not readable
pub unreadable_child : (bytes : List ℕ) (opens : Option TableKind) (kind : TableKind) (place : Option ℕ) (most : ℕ) (room : Room) (p : ℕ) → opens ≡ Some kind → place ≡ Some p → past table_at bytes p ≡ None → NoneFits bytes (opened opens place) most room
unreadable_child bytes opens kind place most room p o e f =
    let P : Option TableKind → Type 0 = λ k. NoneFits bytes (opened k place) most room in
    let here = unreadable bytes (forms.Table kind) place most room p e (ap (option_map (λ t. table_layer kind (spots_of kind t))) f) in
    subst P (sym o) here

-- the layer of a vector of tables
pub vector_layer : (bytes : List ℕ) (kind : TableKind) (place : Option ℕ) (p : ℕ) (v : VectorAt) → place ≡ Some p → past (vector_at 4) bytes p ≡ Some v → layer bytes (record { form = forms.Tables kind; place = place }) ≡ Some (tables_layer (elements kind v.place v.count))
vector_layer bytes kind place p v e f = layer_there bytes (forms.Tables kind) place p e ∙ ap (option_map (λ v. tables_layer (elements kind v.place v.count))) f

-- the layer of an element
pub element_layer : (bytes : List ℕ) (kind : TableKind) (p : ℕ) (t : TableAt) → past table_at bytes p ≡ Some t → layer bytes (record { form = forms.Table kind; place = Some p }) ≡ Some (table_layer kind (spots_of kind t))
element_layer bytes kind p t f = layer_there bytes (forms.Table kind) (Some p) p refl ∙ ap (option_map (λ t. table_layer kind (spots_of kind t))) f

-- an element with no room for it, by whether it is readable
no_room_after : (bytes : List ℕ) (kind : TableKind) (p : ℕ) (most : ℕ) (room : Room) (r : Option TableAt) → past table_at bytes p ≡ r
    → LacksRoom room kind most → NoneFits bytes (record { form = forms.Table kind; place = Some p }) most room
no_room_after bytes kind p most room None f short =
    unreadable bytes (forms.Table kind) (Some p) most room p refl (ap (option_map (λ t. table_layer kind (spots_of kind t))) f)
no_room_after bytes kind p most room (Some t) f short =
    no_room bytes (record { form = forms.Table kind; place = Some p }) kind (spots_of kind t) most room (element_layer bytes kind p t f) short

-- an element with no room for it
pub no_room_at : (bytes : List ℕ) (kind : TableKind) (p : ℕ) (most : ℕ) (room : Room) → LacksRoom room kind most
    → NoneFits bytes (record { form = forms.Table kind; place = Some p }) most room
no_room_at bytes kind p most room short = no_room_after bytes kind p most room (past table_at bytes p) refl short
