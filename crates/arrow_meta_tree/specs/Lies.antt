-- Which tree lies where in the bytes of a metadata (FlatBuffers internals).
use Rattle.std.specs.Prelude.{◌≡◌, ℕ, zero, suc, ◌+◌, List, [], ◌∷◌, Option, Some, None, option_map}
use Rattle.std.specs.Option.{unwrap_or}
use Rattle.arrow_flatbuf.specs.Place.{number_at, target_at, past}
use Rattle.arrow_flatbuf.specs.Table.{TableAt, table_at}
use Rattle.arrow_flatbuf.specs.Text.{bytes_at, text_at}
use Rattle.arrow_flatbuf.specs.Vector.{vector_at}
use Rattle.arrow_types.specs.declared.type_set.TypeSet.{TypeSet}
use Rattle.arrow_meta_tree.specs.declared.kinds.TableKind.{TableKind}
use Rattle.arrow_meta_tree.specs.declared.kinds.TableKind.TheVariants as kinds
use Rattle.arrow_meta_tree.specs.declared.kinds.FieldForm.{FieldForm}
use Rattle.arrow_meta_tree.specs.declared.kinds.FieldForm.TheVariants as forms
use Rattle.arrow_meta_tree.specs.Kinds.{Spot, spots_of}
use Rattle.arrow_meta_tree.specs.Trees.{Leaf, absent, number, text, byte_string, pairs, present, Tree, leaf, table, tables, Trees, none, more}

-- the content of a spot, with the spots of its children
pub data Layer : Type 0 where
  leaf_layer : Leaf → Layer
  table_layer : TableKind → List Spot → Layer
  tables_layer : List Spot → Layer

-- the n elements of a vector of offsets to tables, the first of them at p
abbrev pub elements : TableKind → ℕ → ℕ → List Spot
elements kind p zero = []
elements kind p (suc n) = record { form = forms.Table kind; place = Some p } ∷ elements kind (p + 4) n

-- The struct of two 64-bit numbers at p (Message.fbs, "FieldNode" and "Buffer"). The numbers of a readable vector are
-- all in bounds, so the zeroes are never taken.
abbrev pub pair_at : List ℕ → ℕ → ℕ × ℕ
pair_at bytes p = (unwrap_or (number_at 8 bytes p) 0, unwrap_or (number_at 8 bytes (p + 8)) 0)

-- the n pairs from p on
abbrev pub pairs_from : List ℕ → ℕ → ℕ → List (ℕ × ℕ)
pairs_from bytes p zero = []
pairs_from bytes p (suc n) = pair_at bytes p ∷ pairs_from bytes (p + 16) n

-- the number of w bytes at p
abbrev pub number_layer : ℕ → List ℕ → ℕ → Option Layer
number_layer w bytes p = option_map (λ n. leaf_layer (number n)) (number_at w bytes p)

-- The content of a field or an element at an offset, none if it is not readable. Numbers are at that offset
-- themselves; texts, tables and vectors are where the offset stored there points.
abbrev pub layer_at : List ℕ → FieldForm → ℕ → Option Layer
layer_at bytes forms.Byte p = number_layer 1 bytes p
layer_at bytes forms.Short p = number_layer 2 bytes p
layer_at bytes forms.Int p = number_layer 4 bytes p
layer_at bytes forms.Long p = number_layer 8 bytes p
layer_at bytes forms.Text p = option_map (λ t. leaf_layer (text t)) (past text_at bytes p)
layer_at bytes forms.Bytes p = option_map (λ t. leaf_layer (byte_string t)) (past bytes_at bytes p)
layer_at bytes (forms.Table kind) p =
    option_map (λ t. table_layer kind (spots_of kind t)) (past table_at bytes p)
layer_at bytes (forms.Tables kind) p =
    option_map (λ v. tables_layer (elements kind v.place v.count)) (past (vector_at 4) bytes p)
layer_at bytes forms.Pairs p =
    option_map (λ v. leaf_layer (pairs (pairs_from bytes v.place v.count))) (past (vector_at 16) bytes p)
layer_at bytes forms.Presence p = Some (leaf_layer present)
layer_at bytes (forms.Header types) p = None
layer_at bytes (forms.Type types) p = None

-- The content of a spot. An absent one holds nothing, and is readable.
unfoldable pub layer : List ℕ → Spot → Option Layer
layer bytes s = elim (s.place) [ None ↦ Some (leaf_layer absent) | Some p ↦ layer_at bytes s.form p ]

abbrev mutual
  -- A tree is at a spot if its layer is there, and its children are at the spots of that layer.
  pub Placed : List ℕ → Spot → Tree → Type 0
  Placed bytes s (leaf x) = layer bytes s ≡ Some (leaf_layer x)
  Placed bytes s (table kind xs) =
      (below : List Spot) × (layer bytes s ≡ Some (table_layer kind below)) × AllPlaced bytes below xs
  Placed bytes s (tables xs) =
      (below : List Spot) × (layer bytes s ≡ Some (tables_layer below)) × AllPlaced bytes below xs

  -- Trees are at spots one by one: there are equally many, and each is at its own.
  pub AllPlaced : List ℕ → List Spot → Trees → Type 0
  AllPlaced bytes [] none = Unit {0}
  AllPlaced bytes (s ∷ ss) none = ⊥
  AllPlaced bytes [] (more x xs) = ⊥
  AllPlaced bytes (s ∷ ss) (more x xs) = Placed bytes s x × AllPlaced bytes ss xs

-- A tree of this kind lies at offset p if the table there is readable, and the trees of its fields are at its fields.
abbrev pub Lies : TableKind → Tree → List ℕ → ℕ → Type 0
Lies kind (leaf x) bytes p = ⊥
Lies kind (tables xs) bytes p = ⊥
Lies kind (table k xs) bytes p =
    (k ≡ kind) × (t : TableAt) × (table_at bytes p ≡ Some t) × AllPlaced bytes (spots_of kind t) xs

-- A message's tree lies at the root: where the offset at offset 0 points (FlatBuffers internals, "Encoding").
abbrev pub LiesAtRoot : TypeSet → Tree → List ℕ → Type 0
LiesAtRoot types x bytes = (p : ℕ) × (target_at bytes 0 ≡ Some p) × Lies (kinds.Message types) x bytes p
