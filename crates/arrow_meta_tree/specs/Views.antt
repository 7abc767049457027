-- The trees that the program holds, without where they lie in memory.
use Rattle.std.specs.Prelude.{List, [], ◌∷◌, string_bytes, map}
use Rattle.arrow_meta_tree.specs.declared.message_tree.Leaf.{Leaf as Held}
use Rattle.arrow_meta_tree.specs.declared.message_tree.Leaf.TheVariants as held
use Rattle.arrow_meta_tree.specs.declared.message_tree.Tree.{Tree as Built}
use Rattle.arrow_meta_tree.specs.declared.message_tree.Tree.TheOpen.{Tree-F}
use Rattle.arrow_meta_tree.specs.declared.message_tree.Tree.TheOpen as open_
use Rattle.arrow_meta_tree.specs.declared.message_tree.Tree.TheFolds.{fold-Tree}
use Rattle.arrow_meta_tree.specs.Trees.{Leaf, absent, number, text, byte_string, pairs, present, Tree, leaf, table, tables, Trees, none, more}

-- the content of a field, as the program holds it, seen plain
abbrev pub plain_leaf : Held → Leaf
plain_leaf held.Absent = absent
plain_leaf (held.Number n) = number n
plain_leaf (held.Text s) = text (string_bytes s)
plain_leaf (held.Bytes v) = byte_string v.items
plain_leaf (held.Pairs v) = pairs v.items
plain_leaf held.Present = present

-- a list of trees as a row
abbrev pub row : List Tree → Trees
row [] = none
row (x ∷ xs) = more x (row xs)

-- a tree whose children are plain already
abbrev pub plain_step : Tree-F Tree → Tree
plain_step (open_.Leaf x) = leaf (plain_leaf x)
plain_step (open_.Table kind xs) = table kind (row xs.items)
plain_step (open_.Tables xs) = tables (row xs.items)

-- a tree of the program, seen plain
abbrev pub plain : Built → Tree
plain = fold-Tree Tree plain_step

-- a list of trees of the program, seen as a plain row
abbrev pub plain_all : List Built → Trees
plain_all xs = row (map plain xs)
