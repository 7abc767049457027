-- Where reading requests memory: what the memory is for is readable and within the limits.
use Rattle.std.specs.Prelude.{◌≡◌, ◌≤◌, ◌<◌, ◌+◌, ℕ, List, ◌∷◌, length, Some}
use Rattle.arrow_types.specs.Limits.{LimitNumbers}
use Rattle.arrow_types.specs.declared.type_set.TypeSet.{TypeSet}
use Rattle.arrow_meta_tree.specs.declared.kinds.TableKind.{TableKind}
use Rattle.arrow_meta_tree.specs.declared.kinds.TableKind.TheVariants as kinds
use Rattle.arrow_meta_tree.specs.declared.kinds.FieldForm.TheVariants as forms
use Rattle.arrow_meta_tree.specs.Kinds.{Spot}
use Rattle.arrow_meta_tree.specs.Lies.{leaf_layer, table_layer, tables_layer, layer, Placed}
use Rattle.arrow_meta_tree.specs.Trees.{Leaf, absent, number, text, byte_string, pairs, present, Tree}
use Rattle.arrow_meta_tree.specs.Within.{visit, entry, levels, visits, entries, text_bytes, Room, Spends, Fits}

-- The value of a field takes memory: a text or a string, for which there is room, or at least one pair.
abbrev pub TakesMemory : Leaf → Room → Type 0
TakesMemory absent room = ⊥
TakesMemory (number n) room = ⊥
TakesMemory (text t) room = length t ≤ room.text
TakesMemory (byte_string t) room = length t ≤ room.text
TakesMemory (pairs ps) room = 0 < length ps
TakesMemory present room = ⊥

mutual
  -- Reading the tree at the spot requests memory: for the value of a field, for the fields of a table that is paid
  -- for, or for the tables of a vector.
  pub data Grows (bytes : List ℕ) : Spot → ℕ → Room → Type 0 where
    field_grows : {s : Spot} {most : ℕ} {room : Room} {x : Leaf} →
        layer bytes s ≡ Some (leaf_layer x) → TakesMemory x room → Grows bytes s most room
    table_grows : {s : Spot} {most : ℕ} {room : Room} {kind : TableKind} {ss : List Spot} {below : ℕ} {mid : Room} →
        layer bytes s ≡ Some (table_layer kind ss) → below + visit kind ≡ most → Spends room mid (visit kind) (entry kind) 0 →
        RowGrows bytes ss below mid → Grows bytes s most room
    tables_grow : {s : Spot} {most : ℕ} {room : Room} {ss : List Spot} →
        layer bytes s ≡ Some (tables_layer ss) → RowGrows bytes ss most room → Grows bytes s most room

  -- Reading the trees at the spots requests memory: in the first tree, or to keep it. With that it has requested
  -- memory once, so nothing is said of the later ones.
  pub data RowGrows (bytes : List ℕ) : List Spot → ℕ → Room → Type 0 where
    first_grows : {s : Spot} {rest : List Spot} {most : ℕ} {room : Room} →
        Grows bytes s most room → RowGrows bytes (s ∷ rest) most room
    first_kept : {s : Spot} {rest : List Spot} {most : ℕ} {room : Room} (x : Tree) →
        Placed bytes s x → Fits room most (levels x) (visits x) (entries x) (text_bytes x) → RowGrows bytes (s ∷ rest) most room

-- the spot of a message: offset 0, which holds the offset to its table
abbrev pub root : TypeSet → Spot
root types = record { form = forms.Table (kinds.Message types); place = Some 0 }

-- the room for the Field tables, the KeyValue tables, and the texts and strings of one message
abbrev pub whole : ℕ → Room
whole max_metadata = record { visits = 65536; entries = 65536; text = max_metadata }

-- Reading the message with these bytes as its metadata requests memory.
abbrev pub GrowsAtRoot : LimitNumbers → List ℕ → Type 0
GrowsAtRoot limits bytes = Grows bytes (root limits.types) 32 (whole limits.max_metadata)
