-- The tree of a table, without where it lies.
use Rattle.std.specs.Prelude.{ℕ, List}
use Rattle.arrow_meta_tree.specs.declared.kinds.TableKind.{TableKind}

-- the content of a field that holds no table
pub data Leaf : Type 0 where
  absent : Leaf
  number : ℕ → Leaf
  text : List ℕ → Leaf
  byte_string : List ℕ → Leaf
  pairs : List (ℕ × ℕ) → Leaf
  present : Leaf

mutual
  -- The content of a spot: a field that holds no table, a table with one tree for each of its fields that are read,
  -- in order of their numbers, or the tables of a vector.
  pub data Tree : Type 0 where
    leaf : Leaf → Tree
    table : TableKind → Trees → Tree
    tables : Trees → Tree

  -- a row of trees: the fields of one table, or the tables of one vector
  pub data Trees : Type 0 where
    none : Trees
    more : Tree → Trees → Trees
