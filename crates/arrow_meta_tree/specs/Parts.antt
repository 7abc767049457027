-- The fields of a table by number, with their defaults. A field that holds something of another form counts as
-- absent: no tree that lies at an offset has one.
use Rattle.std.specs.Prelude.{ℕ, zero, suc, List, [], Bool, true, false, Option, Some, None, ◌==◌, not}
use Rattle.std.specs.Borrow.{Bor}
use Rattle.arrow_meta_tree.specs.Trees.{Leaf, absent, number, text, byte_string, pairs, present, Tree, leaf, table, tables, Trees, none, more}

-- field i of a table
abbrev pub nth : ℕ → Trees → Tree
nth i none = leaf absent
nth zero (more x xs) = x
nth (suc i) (more x xs) = nth i xs

-- the fields of a table
abbrev pub parts : Tree → Trees
parts (leaf x) = none
parts (table kind xs) = xs
parts (tables xs) = none

-- the number in a field, or d if there is none
abbrev pub leaf_number_or : ℕ → Leaf → ℕ
leaf_number_or d absent = d
leaf_number_or d (number n) = n
leaf_number_or d (text s) = d
leaf_number_or d (byte_string s) = d
leaf_number_or d (pairs ps) = d
leaf_number_or d present = d

-- the number that a tree is, or d if it is not one
abbrev pub number_or : ℕ → Tree → ℕ
number_or d (leaf x) = leaf_number_or d x
number_or d (table kind xs) = d
number_or d (tables xs) = d

-- the number in field i, or its default d
abbrev pub number_at : ℕ → ℕ → Trees → ℕ
number_at i d xs = number_or d (nth i xs)

-- the truth value in field i: a byte that is not 0, false if it is absent
abbrev pub flag_at : ℕ → Trees → Bool
flag_at i xs = not (number_at i 0 xs == 0)

-- a text, empty if it is absent
abbrev pub text_in : Tree → List ℕ
text_in (leaf absent) = []
text_in (leaf (number n)) = []
text_in (leaf (text s)) = s
text_in (leaf (byte_string s)) = []
text_in (leaf (pairs ps)) = []
text_in (leaf present) = []
text_in (table kind xs) = []
text_in (tables xs) = []

-- a text, if there is one
abbrev pub some_text_in : Tree → Option (List ℕ)
some_text_in (leaf absent) = None
some_text_in (leaf (number n)) = None
some_text_in (leaf (text s)) = Some s
some_text_in (leaf (byte_string s)) = None
some_text_in (leaf (pairs ps)) = None
some_text_in (leaf present) = None
some_text_in (table kind xs) = None
some_text_in (tables xs) = None

-- a string of any bytes, empty if it is absent
abbrev pub bytes_in : Tree → List ℕ
bytes_in (leaf absent) = []
bytes_in (leaf (number n)) = []
bytes_in (leaf (text s)) = []
bytes_in (leaf (byte_string s)) = s
bytes_in (leaf (pairs ps)) = []
bytes_in (leaf present) = []
bytes_in (table kind xs) = []
bytes_in (tables xs) = []

-- the pairs of a vector, none if it is absent
abbrev pub pairs_in : Tree → List (ℕ × ℕ)
pairs_in (leaf absent) = []
pairs_in (leaf (number n)) = []
pairs_in (leaf (text s)) = []
pairs_in (leaf (byte_string s)) = []
pairs_in (leaf (pairs ps)) = ps
pairs_in (leaf present) = []
pairs_in (table kind xs) = []
pairs_in (tables xs) = []

-- whether it is a table
abbrev pub is_table : Tree → Bool
is_table (leaf x) = false
is_table (table kind xs) = true
is_table (tables xs) = false

-- whether it is anything but an absent field
abbrev pub is_there : Tree → Bool
is_there (leaf absent) = false
is_there (leaf (number n)) = true
is_there (leaf (text s)) = true
is_there (leaf (byte_string s)) = true
is_there (leaf (pairs ps)) = true
is_there (leaf present) = true
is_there (table kind xs) = true
is_there (tables xs) = true

-- the bytes of a borrowed text
abbrev pub lent_bytes : Bor (List ℕ) → List ℕ
lent_bytes bytes = bytes.now
