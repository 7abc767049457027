-- The result of reading, and where it ends with a fault.
use Rattle.std.specs.Prelude.{◌≡◌, ℕ, ◌<◌, ◌≤◌, ◌+◌, ◌-◌, ◌⊎◌, Bool, true, false, List, ◌∷◌, Some, None, Result, Ok, Err}
use Rattle.arrow_meta_tree.specs.declared.fault.MetaFault.{MetaFault}
use Rattle.arrow_meta_tree.specs.declared.fault.MetaFault.TheVariants.{Metadata, Version, Header, BodyLength, Unsupported, Schema, Compressed, Memory}
use Rattle.arrow_meta_tree.specs.declared.kinds.TableKind.{TableKind}
use Rattle.arrow_meta_tree.specs.declared.kinds.FieldForm.TheVariants as forms
use Rattle.arrow_meta_tree.specs.declared.reader.Reader.{Reader}
use Rattle.arrow_meta_tree.specs.Grows.{TakesMemory, Grows, RowGrows}
use Rattle.arrow_meta_tree.specs.Kinds.{Spot}
use Rattle.arrow_meta_tree.specs.Lies.{leaf_layer, table_layer, tables_layer, layer, Placed, AllPlaced}
use Rattle.arrow_meta_tree.specs.Trees.{Leaf, Tree, Trees}
use Rattle.arrow_meta_tree.specs.Within.{visit, entry, levels, levels_all, visits, visits_all, entries, entries_all, text_length, text_bytes}
use Rattle.arrow_meta_tree.specs.Within.{text_bytes_all, Room, Spends, Fits}

-- No tree at the spot fits.
abbrev pub NoneFits : List ℕ → Spot → ℕ → Room → Type 0
NoneFits bytes s most room =
    (x : Tree) → Placed bytes s x → Fits room most (levels x) (visits x) (entries x) (text_bytes x) → ⊥

-- No trees at the spots fit together.
abbrev pub NoRowFits : List ℕ → List Spot → ℕ → Room → Type 0
NoRowFits bytes ss most room =
    (xs : Trees) → AllPlaced bytes ss xs → Fits room most (levels_all xs) (visits_all xs) (entries_all xs) (text_bytes_all xs) → ⊥

-- What a fault of reading implies: `Metadata` implies P, `Memory` implies Q. There is no other fault.
abbrev pub Faulty : MetaFault → Type 0 → Type 0 → Type 0
Faulty Metadata P Q = P
Faulty Memory P Q = Q
Faulty Version P Q = ⊥
Faulty Header P Q = ⊥
Faulty BodyLength P Q = ⊥
Faulty (Unsupported n) P Q = ⊥
Faulty (Schema n) P Q = ⊥
Faulty (Compressed kind n) P Q = ⊥

-- The tree at the spot was read, seen by `view`, and paid for. A fault means that no tree fits, or that memory is
-- requested.
abbrev pub ReadsTree : {X : Type 0} → (X → Tree) → Result X MetaFault → List ℕ → Spot → ℕ → Room → Room → Type 0
ReadsTree view (Ok x) bytes s most old new =
    Placed bytes s (view x) × (levels (view x) ≤ most) × Spends old new (visits (view x)) (entries (view x)) (text_bytes (view x))
ReadsTree view (Err e) bytes s most old new = Faulty e (NoneFits bytes s most old) (Grows bytes s most old)

-- The trees at the spots were read and paid for. A fault means that no trees fit together, or that memory is
-- requested.
abbrev pub ReadsRow : {X : Type 0} → (X → Trees) → Result X MetaFault → List ℕ → List Spot → ℕ → Room → Room → Type 0
ReadsRow view (Ok x) bytes ss most old new =
    AllPlaced bytes ss (view x) × (levels_all (view x) ≤ most) ×
    Spends old new (visits_all (view x)) (entries_all (view x)) (text_bytes_all (view x))
ReadsRow view (Err e) bytes ss most old new = Faulty e (NoRowFits bytes ss most old) (RowGrows bytes ss most old)

-- what a reader may still spend: the limits less what its work counts
abbrev pub room : Reader → Room
room r = record {
  visits = 65536 - r.counter.work.fields;
  entries = 65536 - r.counter.work.pairs;
  text = r.counter.max_bytes - r.counter.work.bytes;
}

-- There is no room for a table of this kind: no level is left for it, no visit or no entry.
abbrev pub LacksRoom : Room → TableKind → ℕ → Type 0
LacksRoom room kind levels = (levels < visit kind) ⊎ ((room.visits < visit kind) ⊎ (room.entries < entry kind))

mutual
  -- Reading the tree at the spot ends with this fault, and the new room is left: all that was opened and copied before it
  -- is paid for, and nothing else. With true the spot is an element of a vector, whose table is paid for before it is opened.
  pub data Ends (bytes : List ℕ) : Bool → MetaFault → Spot → ℕ → Room → Room → Type 0 where
    -- the content of a field is not readable
    ends_unreadable : {s : Spot} {most : ℕ} {room : Room} → layer bytes s ≡ None → Ends bytes false Metadata s most room room
    -- there is no room for a table
    ends_unpaid : {v : Bool} {s : Spot} {most : ℕ} {room : Room} (kind : TableKind) (p : ℕ) →
        s ≡ record { form = forms.Table kind; place = Some p } → LacksRoom room kind most → Ends bytes v Metadata s most room room
    -- a table that is paid for is not readable
    ends_paid : {s : Spot} {most : ℕ} {room new : Room} (kind : TableKind) →
        s.form ≡ forms.Table kind → layer bytes s ≡ None → visit kind ≤ most → Spends room new (visit kind) (entry kind) 0 →
        Ends bytes true Metadata s most room new
    -- there is no room for a text or a string
    ends_long : {v : Bool} {s : Spot} {most : ℕ} {room : Room} (x : Leaf) →
        layer bytes s ≡ Some (leaf_layer x) → room.text < text_length x → Ends bytes v Metadata s most room room
    -- an allocation for the value of a field fails, and a text or a string there is paid for
    ends_refused : {v : Bool} {s : Spot} {most : ℕ} {room new : Room} (x : Leaf) →
        layer bytes s ≡ Some (leaf_layer x) → TakesMemory x room → Spends room new 0 0 (text_length x) →
        Ends bytes v Memory s most room new
    -- reading ends in the fields of a table that is paid for
    ends_below : {v : Bool} {e : MetaFault} {s : Spot} {most below : ℕ} {room mid new : Room} {kind : TableKind} {ss : List Spot} →
        layer bytes s ≡ Some (table_layer kind ss) → below + visit kind ≡ most → Spends room mid (visit kind) (entry kind) 0 →
        RowEnds bytes false e ss below mid new → Ends bytes v e s most room new
    -- reading ends in the tables of a vector
    ends_inside : {v : Bool} {e : MetaFault} {s : Spot} {most : ℕ} {room new : Room} {ss : List Spot} →
        layer bytes s ≡ Some (tables_layer ss) → RowEnds bytes true e ss most room new → Ends bytes v e s most room new

  -- Reading the trees at the spots, one after another, ends with this fault: in the first tree, or because the
  -- allocation to keep that tree fails, or in the later ones.
  pub data RowEnds (bytes : List ℕ) : Bool → MetaFault → List Spot → ℕ → Room → Room → Type 0 where
    ends_first : {v : Bool} {e : MetaFault} {s : Spot} {rest : List Spot} {most : ℕ} {room new : Room} →
        Ends bytes v e s most room new → RowEnds bytes v e (s ∷ rest) most room new
    ends_unkept : {v : Bool} {s : Spot} {rest : List Spot} {most : ℕ} {room new : Room} (x : Tree) →
        Placed bytes s x → levels x ≤ most → Spends room new (visits x) (entries x) (text_bytes x) →
        RowEnds bytes v Memory (s ∷ rest) most room new
    ends_later : {v : Bool} {e : MetaFault} {s : Spot} {rest : List Spot} {most : ℕ} {room mid new : Room} (x : Tree) →
        Placed bytes s x → levels x ≤ most → Spends room mid (visits x) (entries x) (text_bytes x) →
        RowEnds bytes v e rest most mid new → RowEnds bytes v e (s ∷ rest) most room new
