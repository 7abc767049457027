-- How deep and how large a tree is, and what a reader may spend on one.
use Rattle.std.specs.Prelude.{◌≡◌, ℕ, ◌+◌, ◌≤◌, max, length}
use Rattle.arrow_meta_tree.specs.declared.kinds.TableKind.{TableKind}
use Rattle.arrow_meta_tree.specs.declared.kinds.TableKind.TheVariants as kinds
use Rattle.arrow_meta_tree.specs.Trees.{Leaf, absent, number, text, byte_string, pairs, present, Tree, leaf, table, tables, Trees, none, more}

-- 1 for a Field table, 0 for every other
abbrev pub visit : TableKind → ℕ
visit (kinds.Message types) = 0
visit (kinds.Schema types) = 0
visit (kinds.Field types) = 1
visit kinds.DictionaryEncoding = 0
visit kinds.RecordBatch = 0
visit kinds.DictionaryBatch = 0
visit (kinds.Type code) = 0
visit kinds.KeyValue = 0

-- 1 for a KeyValue table, 0 for every other
abbrev pub entry : TableKind → ℕ
entry (kinds.Message types) = 0
entry (kinds.Schema types) = 0
entry (kinds.Field types) = 0
entry kinds.DictionaryEncoding = 0
entry kinds.RecordBatch = 0
entry kinds.DictionaryBatch = 0
entry (kinds.Type code) = 0
entry kinds.KeyValue = 1

-- how many bytes a text or a string in a field has, 0 for anything else
abbrev pub text_length : Leaf → ℕ
text_length absent = 0
text_length (number n) = 0
text_length (text s) = length s
text_length (byte_string s) = length s
text_length (pairs ps) = 0
text_length present = 0

abbrev mutual
  -- How many Field tables a tree has. One that several offsets point to counts each time.
  pub visits : Tree → ℕ
  visits (leaf x) = 0
  visits (table kind xs) = visit kind + visits_all xs
  visits (tables xs) = visits_all xs

  -- the Field tables of a row, together
  pub visits_all : Trees → ℕ
  visits_all none = 0
  visits_all (more x xs) = visits x + visits_all xs

abbrev mutual
  -- How many KeyValue tables a tree has. One that several offsets point to counts each time.
  pub entries : Tree → ℕ
  entries (leaf x) = 0
  entries (table kind xs) = entry kind + entries_all xs
  entries (tables xs) = entries_all xs

  -- the KeyValue tables of a row, together
  pub entries_all : Trees → ℕ
  entries_all none = 0
  entries_all (more x xs) = entries x + entries_all xs

abbrev mutual
  -- How many Field tables are nested within one another. A column is level 1.
  pub levels : Tree → ℕ
  levels (leaf x) = 0
  levels (table kind xs) = visit kind + levels_all xs
  levels (tables xs) = levels_all xs

  -- the levels of the deepest tree of a row
  pub levels_all : Trees → ℕ
  levels_all none = 0
  levels_all (more x xs) = max (levels x) (levels_all xs)

abbrev mutual
  -- How many bytes a tree's names, time zones, keys and values have. One that several offsets point to counts each
  -- time.
  pub text_bytes : Tree → ℕ
  text_bytes (leaf x) = text_length x
  text_bytes (table kind xs) = text_bytes_all xs
  text_bytes (tables xs) = text_bytes_all xs

  -- the bytes of the texts and strings of a row, together
  pub text_bytes_all : Trees → ℕ
  text_bytes_all none = 0
  text_bytes_all (more x xs) = text_bytes x + text_bytes_all xs

-- a tree of at most 32 levels, 65,536 Field tables and 65,536 KeyValue tables
pub record IsShallow (x : Tree) : Type 0 where
  pub levels_within : levels x ≤ 32
  pub visits_within : visits x ≤ 65536
  pub entries_within : entries x ≤ 65536

-- A tree within the limits, which are this project's own: its names, zones, keys and values together have at most the
-- number of bytes that one metadata may have.
pub record IsWithin (max_metadata : ℕ) (x : Tree) : Type 0 where
  pub shallow : IsShallow x
  pub text_within : text_bytes x ≤ max_metadata

-- what is left to spend
pub record Room : Type 0 where
  pub visits : ℕ
  pub entries : ℕ
  pub text : ℕ

-- old had room for v visits, n entries and t bytes of text, and new is what they left
pub record Spends (old new : Room) (v n t : ℕ) : Type 0 where
  pub visits_paid : new.visits + v ≡ old.visits
  pub entries_paid : new.entries + n ≡ old.entries
  pub text_paid : new.text + t ≡ old.text

-- there is room for l levels, v visits, n entries and t bytes of text
pub record Fits (room : Room) (most l v n t : ℕ) : Type 0 where
  pub levels_fit : l ≤ most
  pub visits_fit : v ≤ room.visits
  pub entries_fit : n ≤ room.entries
  pub text_fits : t ≤ room.text
