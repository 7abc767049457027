-- How the logic stores trees: as trees of numbers, different trees as different ones.
use Rattle.std.specs.Prelude.{◌≡◌, ℕ, List}
use Rattle.std.proofs.Common.{ap, refl}
use Rattle.std.specs.Coded.{Coded, coded×, coded_ℕ, coded_list}
use base.Stored.{Gv, gnil, gnum, gcons}
use Rattle.arrow_meta_tree.specs.contracts.kinds.TableKind.{the_row as kind_row}
use Rattle.arrow_meta_tree.specs.Trees.{Leaf, absent, number, text, byte_string, pairs, present, Tree, leaf, table, tables, Trees, none, more}

-- texts as trees of numbers
abbrev text_code : Coded (List ℕ)
text_code = coded_list coded_ℕ

-- lists of pairs as trees of numbers
abbrev pairs_code : Coded (List (ℕ × ℕ))
pairs_code = coded_list (coded× coded_ℕ coded_ℕ)

-- the content of a field, as a tree of numbers
abbrev leaf_gv : Leaf → Gv
leaf_gv absent = gnum 0
leaf_gv present = gnum 1
leaf_gv (number n) = gcons (gnum 0) (gnum n)
leaf_gv (text s) = gcons (gnum 1) (text_code.code s)
leaf_gv (pairs ps) = gcons (gnum 2) (pairs_code.code ps)
leaf_gv (byte_string s) = gcons (gnum 3) (text_code.code s)

-- Leaves that are stored alike are equal.
pub leaf_inj : (x y : Leaf) → leaf_gv x ≡ leaf_gv y → x ≡ y
leaf_inj absent absent p = refl
leaf_inj present present p = refl
leaf_inj (number m) (number n) p = ap number (coded_ℕ.inj m n (cc))
leaf_inj (text s) (text t) p = ap text (text_code.inj s t (cc))
leaf_inj (pairs s) (pairs t) p = ap pairs (pairs_code.inj s t (cc))
leaf_inj (byte_string s) (byte_string t) p = ap byte_string (text_code.inj s t (cc))
leaf_inj x y p = cc

abbrev mutual
  -- a tree, as a tree of numbers
  pub tree_gv : Tree → Gv
  tree_gv (leaf x) = gcons (gnum 0) (leaf_gv x)
  tree_gv (table kind xs) = gcons (gnum 1) (gcons (kind_row.coded.code kind) (trees_gv xs))
  tree_gv (tables xs) = gcons (gnum 2) (trees_gv xs)

  -- a row of trees, as a tree of numbers
  pub trees_gv : Trees → Gv
  trees_gv none = gnil
  trees_gv (more x xs) = gcons (tree_gv x) (trees_gv xs)

mutual
  -- Trees that are stored alike are equal.
  pub tree_inj : (x y : Tree) → tree_gv x ≡ tree_gv y → x ≡ y
  tree_inj (leaf x) (leaf y) p = ap leaf (leaf_inj x y (cc))
  tree_inj (table j xs) (table k ys) p = λ i. table (kind_row.coded.inj j k (cc) i) (trees_inj xs ys (cc) i)
  tree_inj (tables xs) (tables ys) p = ap tables (trees_inj xs ys (cc))
  tree_inj x y p = cc

  -- Rows that are stored alike are equal.
  pub trees_inj : (xs ys : Trees) → trees_gv xs ≡ trees_gv ys → xs ≡ ys
  trees_inj none none p = refl
  trees_inj (more x xs) (more y ys) p = λ i. more (tree_inj x y (cc) i) (trees_inj xs ys (cc) i)
  trees_inj xs ys p = cc

-- how trees are stored, and that no two are stored alike
abbrev pub tree_code : Coded Tree
tree_code = record { code = tree_gv; inj = tree_inj }
