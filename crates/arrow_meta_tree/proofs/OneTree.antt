-- At most one tree is at a spot, and at most one lies at an offset.
use Rattle.std.proofs.Common.{◌≡◌, ℕ, List, [], ◌∷◌, refl, sym, subst, ◌∙◌}
use Rattle.arrow_flatbuf.specs.Table.{TableAt}
use Rattle.arrow_meta_tree.specs.declared.kinds.TableKind.{TableKind}
use Rattle.arrow_meta_tree.specs.Kinds.{Spot, spots_of}
use Rattle.arrow_meta_tree.specs.Lies.{Placed, AllPlaced, Lies}
use Rattle.arrow_meta_tree.specs.Trees.{Tree, leaf, table, tables, Trees, none, more}

mutual
  -- Two trees at one spot are equal.
  pub one : (bytes : List ℕ) (s : Spot) (x y : Tree) → Placed bytes s x → Placed bytes s y → x ≡ y
  one bytes s (leaf a) (leaf b) h k = cc
  one bytes s (leaf a) (table j ys) h k = cc
  one bytes s (leaf a) (tables ys) h k = cc
  one bytes s (table i xs) (leaf b) h k = cc
  one bytes s (table i xs) (table j ys) h k =
      let e : h.0 ≡ k.0 = cc in
      let P : List Spot → Type 0 = λ below. AllPlaced bytes below ys in
      let rest = all bytes h.0 xs ys h.2 (subst P (sym e) k.2) in
      cc
  one bytes s (table i xs) (tables ys) h k = cc
  one bytes s (tables xs) (leaf b) h k = cc
  one bytes s (tables xs) (table j ys) h k = cc
  one bytes s (tables xs) (tables ys) h k =
      let e : h.0 ≡ k.0 = cc in
      let P : List Spot → Type 0 = λ below. AllPlaced bytes below ys in
      let rest = all bytes h.0 xs ys h.2 (subst P (sym e) k.2) in
      cc

  -- Two rows at the same spots are equal.
  pub all : (bytes : List ℕ) (ss : List Spot) (xs ys : Trees) → AllPlaced bytes ss xs → AllPlaced bytes ss ys → xs ≡ ys
  all bytes [] none none h k = refl
  all bytes [] none (more y ys) h k = absurd k
  all bytes [] (more x xs) ys h k = absurd h
  all bytes (s ∷ ss) none ys h k = absurd h
  all bytes (s ∷ ss) (more x xs) none h k = absurd k
  all bytes (s ∷ ss) (more x xs) (more y ys) h k =
      let first = one bytes s x y h.0 k.0 in
      let rest = all bytes ss xs ys h.1 k.1 in
      cc

-- Two trees of one kind that lie at one offset are equal.
pub one_table : (kind : TableKind) (bytes : List ℕ) (p : ℕ) (x y : Tree) → Lies kind x bytes p → Lies kind y bytes p → x ≡ y
one_table kind bytes p (leaf a) y h k = absurd h
one_table kind bytes p (tables xs) y h k = absurd h
one_table kind bytes p (table i xs) (leaf b) h k = absurd k
one_table kind bytes p (table i xs) (tables ys) h k = absurd k
one_table kind bytes p (table i xs) (table j ys) h k =
    let kinds : i ≡ j = h.0 ∙ sym k.0 in
    let e : h.1 ≡ k.1 = cc in
    let P : TableAt → Type 0 = λ t. AllPlaced bytes (spots_of kind t) ys in
    let rest = all bytes (spots_of kind h.1) xs ys h.3 (subst P (sym e) k.3) in
    cc
