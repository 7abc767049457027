-- A stored body is well-formed.
use Rattle.std.proofs.Common.{◌≡◌, ℕ, suc, ◌+◌, ◌<◌, Bool, true, false, not, List, [], ◌∷◌, ◌++◌, length, map, drop, refl, ap, ◌∙◌, sym, subst, arith}
use Rattle.std.specs.Prelude.{pos, Option, None, Some, ◌≤ℤ◌, nat_eq, if◌then◌else◌}
use Rattle.std.specs.List.{AllByRecursion}
use Rattle.std.specs.Int.{div_ceil}
use Rattle.std.proofs.lemmas.Int.{ints}
use Rattle.std.proofs.lemmas.List.{length-map, append-nil}
use Rattle.std.proofs.lemmas.List.Concat.{length-flat_map}
use Rattle.arrow_types.specs.DataType.{TypeId}
use Rattle.arrow_types.specs.Field.{FieldTree, FieldHeader, none, more}
use Rattle.arrow_types.specs.declared.field.Encoding.{Encoding}
use Rattle.arrow_types.specs.declared.node.FieldNode.{FieldNode}
use Rattle.arrow_types.specs.declared.node.Buffer.{Buffer}
use Rattle.arrow_layout.specs.Form.{node_form, number_width}
use Rattle.arrow_layout.specs.Layout.{IsLaid, IsText, buffer}
use Rattle.arrow_layout.specs.PlainValue.{PlainValue, is_null_value}
use Rattle.arrow_layout.specs.declared.form.Form.{Form}
use Rattle.arrow_layout.specs.declared.form.Form.TheVariants as forms
use Rattle.arrow_layout.specs.declared.form.ListForm.TheVariants as lists
use Rattle.arrow_body_reader.specs.Held.{IsHeld}
use Rattle.arrow_body_reader.specs.Sound.{IsCounted, IsNodeLaid, IsNodeText, lengths_of, own_bytes, slots_at}
use Rattle.arrow_body_reader.specs.Taken.{AllNodes, IfFlattened, below, flattened, own_buffers, taken_buffers, taken_nodes}
use Rattle.arrow_body_laws.specs.Packed.{packed}
use Rattle.arrow_body_laws.specs.Raws.{AreRaws, AreSmall, IsOwn, bytes_in_value, items_in_value, raws_below, truth_in}
use Rattle.arrow_body_laws.specs.Size.{own_sizes, sizes_of, validity_size}
use Rattle.arrow_body_laws.specs.Stored.{nulls_in, own_chunks, own_node, places_from, rounded, stored, stored_chunks, stored_nodes, validity_bytes}
use Rattle.arrow_body_laws.proofs.Bits.{packed_few}
use Rattle.arrow_body_laws.proofs.Layouts.{fixed_long, ints_long, is_counted, is_laid, is_text}
use Rattle.arrow_body_laws.proofs.Pieces.{offsets_long}
use Rattle.arrow_body_laws.proofs.Placed.{places_held, places_read}
use Rattle.arrow_body_laws.proofs.Walk.{AreStored, all_take, head_form, if_made, inner_raws, own_bytes_are, own_node_is, stored_inside, stored_next}

-- a property that each field's own node has by its raw values is one of all nodes
pub all_nodes : (P : FieldHeader → FieldTree → List FieldNode → List Buffer → Type 0) (body : List ℕ)
    → ((h : FieldHeader) (c rest : FieldTree) (vs : List PlainValue) (raws : List (List PlainValue)) (ns : List FieldNode) (bs : List Buffer) → AreStored body (more h c rest) (vs ∷ raws) ns bs → P h c ns bs)
    → (fields : FieldTree) (raws : List (List PlainValue)) (ns : List FieldNode) (bs : List Buffer) → AreStored body fields raws ns bs → AllNodes P fields ns bs
all_nodes P body each none raws ns bs s = tt
all_nodes P body each (more h c rest) [] ns bs s = absurd s.raw
all_nodes P body each (more h c rest) (vs ∷ raws) ns bs s = (
  each h c rest vs raws ns bs s,
  if_made h.encoding (AllNodes P c (drop 1 ns) (drop (own_buffers h) bs))
      (λ e. all_nodes P body each c (inner_raws h c vs) (drop 1 ns) (drop (own_buffers h) bs) (stored_inside body h c rest vs raws ns bs s e)),
  all_nodes P body each rest raws (drop (1 + flattened h.encoding (taken_nodes c)) ns) (drop (own_buffers h + flattened h.encoding (taken_buffers c)) bs) (stored_next body h c rest vs raws ns bs s),
)

-- a node has as many slots as values
pub slots_are : (body : List ℕ) (h : FieldHeader) (c rest : FieldTree) (vs : List PlainValue) (raws : List (List PlainValue)) (ns : List FieldNode) (bs : List Buffer) → AreStored body (more h c rest) (vs ∷ raws) ns bs → slots_at ns ≡ length vs
slots_are body h c rest vs raws ns bs s = ap (λ (n : FieldNode). slots_at (n ∷ [])) (own_node_is body h c rest vs raws ns bs s)

-- the lengths of the nodes of all fields
pub lengths_are : (body : List ℕ) (fields : FieldTree) (raws : List (List PlainValue)) (ns : List FieldNode) (bs : List Buffer) → AreStored body fields raws ns bs → lengths_of fields ns ≡ map length raws
lengths_are body none [] ns bs s = refl
lengths_are body none (vs ∷ raws) ns bs s = absurd s.raw
lengths_are body (more h c rest) [] ns bs s = absurd s.raw
lengths_are body (more h c rest) (vs ∷ raws) ns bs s = λ i.
    slots_are body h c rest vs raws ns bs s i
    ∷ lengths_are body rest raws (drop (1 + flattened h.encoding (taken_nodes c)) ns) (drop (own_buffers h + flattened h.encoding (taken_buffers c)) bs) (stored_next body h c rest vs raws ns bs s) i

below_by : (tag : TypeId) (e : Option Encoding) (c : FieldTree) (vs : List PlainValue) (ns : List FieldNode) → (e ≡ None → lengths_of c ns ≡ map length (raws_below (node_form tag e) c vs))
    → lengths_of (below e c) ns ≡ map length (raws_below (node_form tag e) c vs)
below_by tag None c vs ns same = same refl
below_by tag (Some e) c vs ns same = refl

-- and of those below a field
pub lengths_below : (body : List ℕ) (h : FieldHeader) (c rest : FieldTree) (vs : List PlainValue) (raws : List (List PlainValue)) (ns : List FieldNode) (bs : List Buffer) → AreStored body (more h c rest) (vs ∷ raws) ns bs
    → lengths_of (below h.encoding c) (drop 1 ns) ≡ map length (inner_raws h c vs)
lengths_below body h c rest vs raws ns bs s =
    below_by h.tag h.encoding c vs (drop 1 ns)
    (λ e. lengths_are body c (inner_raws h c vs) (drop 1 ns) (drop (own_buffers h) bs) (stored_inside body h c rest vs raws ns bs s e))

-- a field's own node and buffers are well-formed
pub node_laid : (body : List ℕ) (h : FieldHeader) (c rest : FieldTree) (vs : List PlainValue) (raws : List (List PlainValue)) (ns : List FieldNode) (bs : List Buffer) → AreStored body (more h c rest) (vs ∷ raws) ns bs → IsNodeLaid body h c ns bs
node_laid body h c rest vs raws ns bs s =
    let node = own_node_is body h c rest vs raws ns bs s in
    let long = slots_are body h c rest vs raws ns bs s in
    let bytes = own_bytes_are body h c rest vs raws ns bs s in
    let counts = lengths_below body h c rest vs raws ns bs s in
    record {
      sign = subst (λ (n : FieldNode). pos 0 ≤ℤ n.length) (sym node) (omega (arith, ints));
      few = subst (λ (n : FieldNode). n.length ≤ℤ pos 2147483647) (sym node) (omega (arith, ints, s.small.0.few));
      held = all_take (IsHeld body) (own_buffers h) bs s.held;
      laid = subst (λ n. IsLaid h.tag h.encoding n (own_bytes body h bs) (lengths_of (below h.encoding c) (drop 1 ns))) (sym long)
          (subst (λ b. IsLaid h.tag h.encoding (length vs) b (lengths_of (below h.encoding c) (drop 1 ns))) (sym bytes)
          (subst (λ k. IsLaid h.tag h.encoding (length vs) (own_chunks (head_form h) vs) k) (sym counts) (is_laid (head_form h) c vs s.raw.0 s.small.0)));
      nulls = subst (λ n. IsCounted h.tag h.encoding n (buffer (own_bytes body h bs) 0)) (sym node)
          (subst (λ b. IsCounted h.tag h.encoding (own_node vs) (buffer b 0)) (sym bytes) (is_counted (head_form h) vs));
    }

-- and its texts are UTF-8
pub node_text : (body : List ℕ) (h : FieldHeader) (c rest : FieldTree) (vs : List PlainValue) (raws : List (List PlainValue)) (ns : List FieldNode) (bs : List Buffer) → AreStored body (more h c rest) (vs ∷ raws) ns bs → IsNodeText body h c ns bs
node_text body h c rest vs raws ns bs s =
    subst (λ n. IsText h.tag h.encoding n (own_bytes body h bs)) (sym (slots_are body h c rest vs raws ns bs s))
    (subst (λ b. IsText h.tag h.encoding (length vs) b) (sym (own_bytes_are body h c rest vs raws ns bs s)) (is_text (head_form h) c vs s.raw.0 s.small.0))

-- a stored body, from its beginning
pub are_stored : (align : ℕ) (fields : FieldTree) (raws : List (List PlainValue)) → 0 < align → AreRaws fields raws → AreSmall fields raws
    → AreStored (stored align fields raws).bytes fields raws (stored align fields raws).nodes (stored align fields raws).buffers
are_stored align fields raws some raw small = record {
  raw = raw;
  small = small;
  others = [];
  past = [];
  nodes = sym (append-nil (stored_nodes fields raws));
  chunks = places_read align [] (stored align fields raws).bytes 0 (stored_chunks fields raws) some refl refl ∙ sym (append-nil (stored_chunks fields raws));
  held = places_held align [] (stored align fields raws).bytes 0 (stored_chunks fields raws) some refl refl;
}

-- each buffer has its offset
pub places_long : (align from : ℕ) (chunks : List (List ℕ)) → length (places_from align from chunks) ≡ length chunks
places_long align from [] = refl
places_long align from (c ∷ cs) = ap suc (places_long align (from + rounded align (length c)) cs)

validity_by : (b : Bool) (vs : List PlainValue) → length (if b then [] else packed (map (λ v. not (is_null_value v)) vs)) ≡ (if b then 0 else div_ceil (length vs) 8)
validity_by true vs = refl
validity_by false vs = packed_few (map (λ v. not (is_null_value v)) vs) ∙ ap (λ n. div_ceil n 8) (length-map vs (λ v. not (is_null_value v)))

-- the bytes of the bitmap
validity_long : (vs : List PlainValue) → length (validity_bytes vs) ≡ validity_size vs
validity_long vs = validity_by (nat_eq (nulls_in vs) 0) vs

-- the bytes of a node's buffers
own_sized : (form : Form) (c : FieldTree) (vs : List PlainValue) → AllByRecursion (IsOwn form c) vs → map length (own_chunks form vs) ≡ own_sizes form vs
own_sized forms.Nulls c vs own = refl
own_sized forms.Bits c vs own = λ i. validity_long vs i ∷ (packed_few (map truth_in vs) ∙ ap (λ n. div_ceil n 8) (length-map vs truth_in)) i ∷ []
own_sized (forms.Numbers number) c vs own = λ i. validity_long vs i ∷ ints_long (number_width number) vs i ∷ []
own_sized (forms.Bytes w) c vs own = λ i. validity_long vs i ∷ offsets_long w (λ v. length (bytes_in_value v)) vs i ∷ length-flat_map bytes_in_value vs i ∷ []
own_sized (forms.Texts w) c vs own = λ i. validity_long vs i ∷ offsets_long w (λ v. length (bytes_in_value v)) vs i ∷ length-flat_map bytes_in_value vs i ∷ []
own_sized (forms.FixedBytes w) c vs own = λ i. validity_long vs i ∷ fixed_long w c vs own i ∷ []
own_sized (forms.Lists (lists.Offsets w)) c vs own = λ i. validity_long vs i ∷ offsets_long w (λ v. length (items_in_value 0 v)) vs i ∷ []
own_sized (forms.Lists (lists.Fixed size)) c vs own = λ i. validity_long vs i ∷ []
own_sized forms.Structs c vs own = λ i. validity_long vs i ∷ []

pub map_append : {X Y : Type 0} (f : X → Y) (xs ys : List X) → map f (xs ++ ys) ≡ map f xs ++ map f ys
map_append f [] ys = refl
map_append f (x ∷ xs) ys = ap (λ zs. f x ∷ zs) (map_append f xs ys)

-- without raw values there are none
none_sized : (c : FieldTree) → map length (stored_chunks c []) ≡ sizes_of c []
none_sized none = refl
none_sized (more h c rest) = refl

sized_inside : (tag : TypeId) (e : Option Encoding) (c : FieldTree) (vs : List PlainValue) → IfFlattened e (AreRaws c (raws_below (node_form tag e) c vs))
    → (AreRaws c (raws_below (node_form tag e) c vs) → map length (stored_chunks c (raws_below (node_form tag e) c vs)) ≡ sizes_of c (raws_below (node_form tag e) c vs))
    → map length (stored_chunks c (raws_below (node_form tag e) c vs)) ≡ sizes_of c (raws_below (node_form tag e) c vs)
sized_inside tag None c vs raws same = same raws
sized_inside tag (Some e) c vs raws same = none_sized c

-- the bytes of all buffers
pub chunks_sized : (fields : FieldTree) (raws : List (List PlainValue)) → AreRaws fields raws → map length (stored_chunks fields raws) ≡ sizes_of fields raws
chunks_sized none raws are = refl
chunks_sized (more h c rest) [] are = refl
chunks_sized (more h c rest) (vs ∷ raws) are =
    let inner = stored_chunks c (inner_raws h c vs) in
    let own = own_chunks (head_form h) vs in
    let below = sized_inside h.tag h.encoding c vs are.1 (λ raw. chunks_sized c (inner_raws h c vs) raw) in
    map_append length own (inner ++ stored_chunks rest raws)
    ∙ ap (λ ns. map length own ++ ns) (map_append length inner (stored_chunks rest raws))
    ∙ (λ i. own_sized (head_form h) c vs are.0 i ++ (below i ++ chunks_sized rest raws are.2 i))
