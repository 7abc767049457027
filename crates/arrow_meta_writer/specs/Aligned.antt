-- A tree in the bytes as a writer has to write it: numbers at multiples of their sizes, a 0 byte after each text
-- (FlatBuffers internals, "Tables", "Strings", "Structs").
use Rattle.std.specs.Prelude.{◌≡◌, ℕ, ◌+◌, ◌%◌, List, [], ◌∷◌, length, Some}
use Rattle.arrow_flatbuf.specs.Place.{number_at, target_at}
use Rattle.arrow_types.specs.declared.type_set.TypeSet.{TypeSet}
use Rattle.arrow_meta_tree.specs.declared.kinds.FieldForm.{FieldForm}
use Rattle.arrow_meta_tree.specs.declared.kinds.FieldForm.TheVariants as forms
use Rattle.arrow_meta_tree.specs.Grows.{root}
use Rattle.arrow_meta_tree.specs.Kinds.{Spot}
use Rattle.arrow_meta_tree.specs.Lies.{leaf_layer, table_layer, tables_layer, layer}
use Rattle.arrow_meta_tree.specs.Trees.{Leaf, absent, number, text, byte_string, pairs, present, Tree, leaf, table}
use Rattle.arrow_meta_tree.specs.Trees.{tables, Trees, none, more}

-- the number of bytes in a field of this form: those of a number, or of an offset
abbrev pub form_size : FieldForm → ℕ
form_size forms.Byte = 1
form_size forms.Short = 2
form_size forms.Int = 4
form_size forms.Long = 8
form_size forms.Text = 4
form_size forms.Bytes = 4
form_size forms.Pairs = 4
form_size forms.Presence = 4
form_size (forms.Table kind) = 4
form_size (forms.Tables kind) = 4
form_size (forms.Header types) = 4
form_size (forms.Type types) = 4

-- The value at a spot is at a multiple of its size.
pub record IsPlaced (s : Spot) : Type 0 where
  pub place : ℕ
  pub there : s.place ≡ Some place
  pub aligned : place % form_size s.form ≡ 0

-- The offset at a spot is at a multiple of 4, and leads to position q.
pub record Leads (bytes : List ℕ) (s : Spot) (q : ℕ) : Type 0 where
  pub place : ℕ
  pub there : s.place ≡ Some place
  pub aligned : place % 4 ≡ 0
  pub target : target_at bytes place ≡ Some q

-- The content of a field that holds no table is aligned. The count of a text or a string is at a multiple of 4, and
-- its last byte is followed by a 0 byte; the numbers of pairs follow their count, at multiples of 8.
abbrev pub IsLeafAligned : List ℕ → Spot → Leaf → Type 0
IsLeafAligned bytes s (number n) = IsPlaced s
IsLeafAligned bytes s (text t) = (q : ℕ) × Leads bytes s q × (q % 4 ≡ 0) × (number_at 1 bytes (q + 4 + length t) ≡ Some 0)
IsLeafAligned bytes s (byte_string t) = (q : ℕ) × Leads bytes s q × (q % 4 ≡ 0) × (number_at 1 bytes (q + 4 + length t) ≡ Some 0)
IsLeafAligned bytes s (pairs ps) = (q : ℕ) × Leads bytes s q × ((q + 4) % 8 ≡ 0)
IsLeafAligned bytes s absent = Unit {0}
IsLeafAligned bytes s present = Unit {0}

abbrev mutual
  -- A tree is at a spot, and it and all that belongs to it is aligned: a table at a multiple of 8, a vector of tables
  -- at a multiple of 4.
  pub PlacedAligned : List ℕ → Spot → Tree → Type 0
  PlacedAligned bytes s (leaf x) = (layer bytes s ≡ Some (leaf_layer x)) × IsLeafAligned bytes s x
  PlacedAligned bytes s (table kind xs) =
      (q : ℕ) × Leads bytes s q × (q % 8 ≡ 0) ×
      ((below : List Spot) × (layer bytes s ≡ Some (table_layer kind below)) × AllAligned bytes below xs)
  PlacedAligned bytes s (tables xs) =
      (q : ℕ) × Leads bytes s q × (q % 4 ≡ 0) ×
      ((below : List Spot) × (layer bytes s ≡ Some (tables_layer below)) × AllAligned bytes below xs)

  -- Trees are at spots one by one, aligned.
  pub AllAligned : List ℕ → List Spot → Trees → Type 0
  AllAligned bytes [] none = Unit {0}
  AllAligned bytes (s ∷ ss) none = ⊥
  AllAligned bytes [] (more x xs) = ⊥
  AllAligned bytes (s ∷ ss) (more x xs) = PlacedAligned bytes s x × AllAligned bytes ss xs

-- A message's tree is at the root, aligned.
abbrev pub LiesAligned : TypeSet → Tree → List ℕ → Type 0
LiesAligned types x bytes = PlacedAligned bytes (root types) x
