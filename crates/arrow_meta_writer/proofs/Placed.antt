-- The layout of a message matches its tree, aligned.
use Rattle.std.proofs.Common.{◌≡◌, ℕ, ◌+◌, ◌%◌, List, [], ◌∷◌, length, Option, Some, None}
use Rattle.std.proofs.Common.{option_map, refl, sym, ap, subst, ◌∙◌}
use Rattle.arrow_flatbuf.specs.declared.layout.Width.{Width}
use Rattle.arrow_flatbuf.specs.declared.layout.Width.TheVariants.{One, Two, Four, Eight}
use Rattle.arrow_flatbuf.specs.declared.layout.FieldValue.TheVariants.{Scalar, Target}
use Rattle.arrow_flatbuf.specs.Nodes.{Node, TableFields, last, absent, scalar, offset, count_nodes}
use Rattle.arrow_flatbuf.specs.Nodes.{TextPlaced, BytesPlaced, PairsPlaced, VectorPlaced, TableReads, NodePlaced}
use Rattle.arrow_flatbuf.specs.Nodes.{NodesPlaced, CellsPlaced}
use Rattle.arrow_flatbuf.specs.Nodes as laid
use Rattle.arrow_flatbuf.specs.Place.{target_at, past}
use Rattle.arrow_flatbuf.specs.Placed.{SlotPlaced}
use Rattle.arrow_flatbuf.specs.Table.{TableAt, table_at, field_place}
use Rattle.arrow_flatbuf.specs.Text.{bytes_at, text_at}
use Rattle.arrow_flatbuf.specs.Vector.{VectorAt, vector_at}
use Rattle.arrow_meta_tree.specs.declared.kinds.TableKind.{TableKind}
use Rattle.arrow_meta_tree.specs.declared.kinds.FieldForm.{FieldForm}
use Rattle.arrow_meta_tree.specs.declared.kinds.FieldForm.TheVariants as forms
use Rattle.arrow_meta_writer.specs.Aligned.{Leads, PlacedAligned, AllAligned}
use Rattle.arrow_meta_tree.specs.Kinds.{Spot, spot, spots_of, opened, code_at}
use Rattle.arrow_meta_tree.specs.Lies.{leaf_layer, table_layer, tables_layer, layer, elements}
use Rattle.arrow_meta_tree.specs.Lies.{pairs_from, Placed, AllPlaced}
use Rattle.arrow_meta_tree.specs.Trees as tree
use Rattle.arrow_meta_tree.specs.Trees.{number, text, byte_string, pairs, Tree, leaf, table, tables, Trees, none}
use Rattle.arrow_meta_tree.specs.Trees.{more}
use Rattle.arrow_meta_tree.proofs.Layers.{layer_there}

-- the table at position p
abbrev pub at : List ℕ → ℕ → TableAt
at b p = record { bytes = b; place = p }

mutual
  -- `PlacedAligned` implies `Placed`.
  pub placed : (b : List ℕ) (s : Spot) (x : Tree) → PlacedAligned b s x → Placed b s x
  placed b s (leaf x) h = h.0
  placed b s (table k xs) h = (h.3.0, h.3.1, all_placed b h.3.0 xs h.3.2)
  placed b s (tables xs) h = (h.3.0, h.3.1, all_placed b h.3.0 xs h.3.2)

  -- `AllAligned` implies `AllPlaced`.
  pub all_placed : (b : List ℕ) (ss : List Spot) (xs : Trees) → AllAligned b ss xs → AllPlaced b ss xs
  all_placed b [] none h = tt
  all_placed b [] (more x xs) h = absurd h
  all_placed b (s ∷ ss) none h = absurd h
  all_placed b (s ∷ ss) (more x xs) h = (placed b s x h.0, all_placed b ss xs h.1)

-- the content that an offset leads to
after_there : {X : Type 0} (read : List ℕ → ℕ → Option X) (b : List ℕ) (q r : ℕ) (x : X) → target_at b q ≡ Some r → read b r ≡ Some x → past read b q ≡ Some x
unfolding past
after_there read b q r x e f = rw e f

-- a field without a position
pub absent_spot : (b : List ℕ) (form : FieldForm) (place : Option ℕ) → place ≡ None → PlacedAligned b (record { form = form; place = place }) (leaf tree.absent)
unfolding layer
absent_spot b form place e = (rw e refl, tt)

-- a table that no code opens
pub closed_spot : (b : List ℕ) (opens : Option TableKind) (place : Option ℕ) → opens ≡ None → PlacedAligned b (opened opens place) (leaf tree.absent)
closed_spot b opens place e =
    let P : Option TableKind → Type 0 = λ o. PlacedAligned b (opened o place) (leaf tree.absent) in
    subst P (sym e) (absent_spot b forms.Presence None refl)

-- the form of a number of this width
abbrev pub form_of : Width → FieldForm
form_of One = forms.Byte
form_of Two = forms.Short
form_of Four = forms.Int
form_of Eight = forms.Long

-- a number in a field
pub number_field : (w : Width) (b : List ℕ) (p i n : ℕ) → SlotPlaced (at b p) i (Scalar w n) → PlacedAligned b (spot (form_of w) (at b p) i) (leaf (number n))
number_field One b p i n h = (layer_there b forms.Byte (field_place (at b p) i) h.0 h.1 ∙ ap (option_map (λ n. leaf_layer (number n))) h.3, record { place = h.0; there = h.1; aligned = h.2 })
number_field Two b p i n h = (layer_there b forms.Short (field_place (at b p) i) h.0 h.1 ∙ ap (option_map (λ n. leaf_layer (number n))) h.3, record { place = h.0; there = h.1; aligned = h.2 })
number_field Four b p i n h = (layer_there b forms.Int (field_place (at b p) i) h.0 h.1 ∙ ap (option_map (λ n. leaf_layer (number n))) h.3, record { place = h.0; there = h.1; aligned = h.2 })
number_field Eight b p i n h = (layer_there b forms.Long (field_place (at b p) i) h.0 h.1 ∙ ap (option_map (λ n. leaf_layer (number n))) h.3, record { place = h.0; there = h.1; aligned = h.2 })

-- the offset in a field
offset_field : (b : List ℕ) (p i r : ℕ) (form : FieldForm) → SlotPlaced (at b p) i (Target r) → Leads b (record { form = form; place = field_place (at b p) i }) r
offset_field b p i r form h = record { place = h.0; there = h.1; aligned = h.2; target = h.3 }

-- a text that a field's offset names
pub text_field : (b : List ℕ) (p i r : ℕ) (s : List ℕ) → SlotPlaced (at b p) i (Target r) → TextPlaced b r s → PlacedAligned b (spot forms.Text (at b p) i) (leaf (text s))
text_field b p i r s h k = (
  layer_there b forms.Text (field_place (at b p) i) h.0 h.1 ∙ ap (option_map (λ t. leaf_layer (text t))) (after_there text_at b h.0 r s h.3 k.readable),
  (r, offset_field b p i r forms.Text h, k.aligned, k.closed),
)

-- a string that a field's offset names
pub bytes_field : (b : List ℕ) (p i r : ℕ) (s : List ℕ) → SlotPlaced (at b p) i (Target r) → BytesPlaced b r s → PlacedAligned b (spot forms.Bytes (at b p) i) (leaf (byte_string s))
bytes_field b p i r s h k = (
  layer_there b forms.Bytes (field_place (at b p) i) h.0 h.1 ∙ ap (option_map (λ t. leaf_layer (byte_string t))) (after_there bytes_at b h.0 r s h.3 k.readable),
  (r, offset_field b p i r forms.Bytes h, k.aligned, k.closed),
)

-- consecutive pairs
pairs_read : (b : List ℕ) (p : ℕ) (xs : List (ℕ × ℕ)) → PairsPlaced b p xs → pairs_from b p (length xs) ≡ xs
pairs_read b p [] h = refl
pairs_read b p (x ∷ xs) h =
    let rest = pairs_read b (p + 16) xs h.3 in
    let one = h.1 in
    let two = h.2 in
    rw (one, two, rest) refl

-- a vector of pairs that a field's offset names
pub pairs_field : (b : List ℕ) (p i r : ℕ) (xs : List (ℕ × ℕ)) → SlotPlaced (at b p) i (Target r) → NodePlaced b r (laid.pairs xs) → PlacedAligned b (spot forms.Pairs (at b p) i) (leaf (pairs xs))
pairs_field b p i r xs h k =
    let v : VectorAt = record { bytes = b; place = r + 4; count = length xs; size = 16 } in (
      layer_there b forms.Pairs (field_place (at b p) i) h.0 h.1
          ∙ ap (option_map (λ v. leaf_layer (pairs (pairs_from b v.place v.count)))) (after_there (vector_at 16) b h.0 r v h.3 k.0.readable)
          ∙ ap (λ ps. Some (leaf_layer (pairs ps))) (pairs_read b (r + 4) xs k.2),
      (r, offset_field b p i r forms.Pairs h, k.1),
    )

-- a table that the offset at a spot names
pub table_spot : (b : List ℕ) (k : TableKind) (place : Option ℕ) (q r : ℕ) (xs : Trees) → place ≡ Some q → q % 4 ≡ 0 → target_at b q ≡ Some r → TableReads b r → AllAligned b (spots_of k (at b r)) xs
    → PlacedAligned b (record { form = forms.Table k; place = place }) (table k xs)
table_spot b k place q r xs there aligned leads reads below = (
  r,
  record { place = q; there = there; aligned = aligned; target = leads },
  reads.aligned,
  (spots_of k (at b r), layer_there b (forms.Table k) place q there ∙ ap (option_map (λ t. table_layer k (spots_of k t))) (after_there table_at b q r (at b r) leads reads.readable), below),
)

-- a table that a field's offset names
pub table_field : (b : List ℕ) (p i r : ℕ) (k : TableKind) (xs : Trees) → SlotPlaced (at b p) i (Target r) → TableReads b r → AllAligned b (spots_of k (at b r)) xs → PlacedAligned b (spot (forms.Table k) (at b p) i) (table k xs)
table_field b p i r k xs h reads below = table_spot b k (field_place (at b p) i) h.0 r xs h.1 h.2 h.3 reads below

-- a table that a field's offset names, and that a code opens
pub opened_field : (b : List ℕ) (p i r : ℕ) (opens : Option TableKind) (k : TableKind) (xs : Trees) → opens ≡ Some k → SlotPlaced (at b p) i (Target r) → TableReads b r → AllAligned b (spots_of k (at b r)) xs
    → PlacedAligned b (opened opens (field_place (at b p) i)) (table k xs)
opened_field b p i r opens k xs e h reads below =
    let P : Option TableKind → Type 0 = λ o. PlacedAligned b (opened o (field_place (at b p) i)) (table k xs) in
    subst P (sym e) (table_field b p i r k xs h reads below)

-- a vector of tables that a field's offset names
pub tables_field : (b : List ℕ) (p i r n : ℕ) (k : TableKind) (xs : Trees) → SlotPlaced (at b p) i (Target r) → VectorPlaced b r n 4 → AllAligned b (elements k (r + 4) n) xs → PlacedAligned b (spot (forms.Tables k) (at b p) i) (tables xs)
tables_field b p i r n k xs h reads below =
    let v : VectorAt = record { bytes = b; place = r + 4; count = n; size = 4 } in (
      r,
      offset_field b p i r (forms.Tables k) h,
      reads.aligned,
      (
        elements k (r + 4) n,
        layer_there b (forms.Tables k) (field_place (at b p) i) h.0 h.1 ∙ ap (option_map (λ v. tables_layer (elements k v.place v.count))) (after_there (vector_at 4) b h.0 r v h.3 reads.readable),
        below,
      ),
    )

-- the code in a field
pub code_there : (b : List ℕ) (p i n : ℕ) → SlotPlaced (at b p) i (Scalar One n) → code_at (at b p) i ≡ n
code_there b p i n h =
    let place = h.1 in
    let read = h.3 in
    rw (place, read) refl
