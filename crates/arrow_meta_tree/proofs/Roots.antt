-- A tree of a table is at an offset's spot exactly if it lies where the offset points.
use Rattle.std.proofs.Common.{◌≡◌, ℕ, List, Option, Some, None, option_map, refl, sym, ap, subst, ◌∙◌}
use Rattle.arrow_flatbuf.specs.Place.{◌>>=◌, target_at, past}
use Rattle.arrow_flatbuf.specs.Table.{TableAt, table_at}
use Rattle.arrow_types.specs.declared.type_set.TypeSet.{TypeSet}
use Rattle.arrow_meta_tree.specs.declared.kinds.TableKind.{TableKind}
use Rattle.arrow_meta_tree.specs.declared.kinds.TableKind.TheVariants as kinds
use Rattle.arrow_meta_tree.specs.declared.kinds.FieldForm.TheVariants as forms
use Rattle.arrow_meta_tree.specs.Kinds.{Spot, spots_of}
use Rattle.arrow_meta_tree.specs.Lies.{Layer, table_layer, leaf_layer, tables_layer, layer, Placed, AllPlaced, Lies, LiesAtRoot}
use Rattle.arrow_meta_tree.specs.Grows.{root}
use Rattle.arrow_meta_tree.specs.Trees.{Tree, leaf, table, tables}
use Rattle.arrow_meta_tree.proofs.Layers.{layer_there, element_layer}

-- the spot of an offset to a table
abbrev offset_at : TableKind → ℕ → Spot
offset_at kind p = record { form = forms.Table kind; place = Some p }

both_steps : {A B : Type 0} (o : Option A) (f : A → Option B) (b : B) → (o >>= f) ≡ Some b → (a : A) × (o ≡ Some a) × (f a ≡ Some b)
both_steps None f b e = absurd (cc)
both_steps (Some a) f b e = (a, refl, e)

mapped : {A B : Type 0} (g : A → B) (o : Option A) (b : B) → option_map g o ≡ Some b → (a : A) × (o ≡ Some a) × (g a ≡ b)
mapped g None b e = absurd (cc)
mapped g (Some a) b e = (a, refl, cc)

one_step : {A B : Type 0} (o : Option A) (f : A → Option B) (a : A) → o ≡ Some a → (o >>= f) ≡ f a
one_step o f a e = ap (λ x. x >>= f) e

-- if the offset points to a readable table, that table
led : (bytes : List ℕ) (p : ℕ) (t : TableAt) → past table_at bytes p ≡ Some t → (q : ℕ) × (target_at bytes p ≡ Some q) × (table_at bytes q ≡ Some t)
unfolding past
led bytes p t e = both_steps (target_at bytes p) (λ q. table_at bytes q) t e

-- if there is a readable table at the target of the offset, that table
pub leads : (bytes : List ℕ) (p q : ℕ) (t : TableAt) → target_at bytes p ≡ Some q → table_at bytes q ≡ Some t → past table_at bytes p ≡ Some t
unfolding past
leads bytes p q t e f = one_step (target_at bytes p) (λ q. table_at bytes q) q e ∙ f

-- the table whose layer is at an offset
pub table_there : (bytes : List ℕ) (kind : TableKind) (p : ℕ) (l : Layer) → layer bytes (offset_at kind p) ≡ Some l → (t : TableAt) × (past table_at bytes p ≡ Some t) × (table_layer kind (spots_of kind t) ≡ l)
table_there bytes kind p l e = mapped (λ t. table_layer kind (spots_of kind t)) (past table_at bytes p) l (sym (layer_there bytes (forms.Table kind) (Some p) p refl) ∙ e)

-- A tree at an offset lies where the offset points.
pub lies_there : (bytes : List ℕ) (kind : TableKind) (p : ℕ) (x : Tree) → Placed bytes (offset_at kind p) x → (q : ℕ) × (target_at bytes p ≡ Some q) × Lies kind x bytes q
lies_there bytes kind p (leaf a) h = let there = table_there bytes kind p (leaf_layer a) h in absurd (let e = there.2 in cc)
lies_there bytes kind p (tables xs) h = let there = table_there bytes kind p (tables_layer h.0) h.1 in absurd (let e = there.2 in cc)
lies_there bytes kind p (table k xs) h =
    let there = table_there bytes kind p (table_layer k h.0) h.1 in
    let e = there.2 in
    let same : k ≡ kind = cc in
    let spots : h.0 ≡ spots_of kind there.0 = cc in
    let P : List Spot → Type 0 = λ ss. AllPlaced bytes ss xs in
    let at = led bytes p there.0 there.1 in
    (at.0, at.1, (same, there.0, at.2, subst P spots h.2))

-- A tree that lies where an offset points is at the offset.
pub placed_there : (bytes : List ℕ) (kind : TableKind) (p q : ℕ) (x : Tree) → target_at bytes p ≡ Some q → Lies kind x bytes q → Placed bytes (offset_at kind p) x
placed_there bytes kind p q (leaf a) e h = absurd h
placed_there bytes kind p q (tables xs) e h = absurd h
placed_there bytes kind p q (table k xs) e h =
    let there = element_layer bytes kind p h.1 (leads bytes p q h.1 e h.2) in
    let same = h.0 in
    (spots_of kind h.1, cc, h.3)

-- A tree at the spot of the message lies at the root.
pub root_lies : (types : TypeSet) (bytes : List ℕ) (x : Tree) → Placed bytes (root types) x → LiesAtRoot types x bytes
root_lies types bytes x h = lies_there bytes (kinds.Message types) 0 x h

-- A tree that lies at the root is at the spot of the message.
pub root_placed : (types : TypeSet) (bytes : List ℕ) (x : Tree) → LiesAtRoot types x bytes → Placed bytes (root types) x
root_placed types bytes x h = placed_there bytes (kinds.Message types) 0 h.0 x h.1 h.2
