-- A stored body is canonical.
use Rattle.std.proofs.Common.{◌≡◌, ℕ, zero, suc, ◌+◌, ◌*◌, ◌-◌, ◌%◌, ◌<◌, ◌≤◌, Bool, true, false, cond, not, List, [], ◌∷◌, ◌++◌, length, map, get_or, take, drop, refl, ap, ◌∙◌, sym, subst, arith, if◌then◌else◌}
use Rattle.std.specs.Prelude.{pos, nat_eq, Option, None, Some, replicate}
use Rattle.std.specs.List.{AllByRecursion, flat_map, sum_by, range_with_len}
use Rattle.std.specs.Int.{div_ceil}
use Rattle.std.proofs.lemmas.Bool.{eqb-false}
use Rattle.std.proofs.lemmas.Int.{ints}
use Rattle.std.proofs.lemmas.List.{get_or-drop, get_or-map, get_or-replicate, get_or-take, length-map, length-append, length-replicate, append_assoc, append-nil, take_all}
use Rattle.std.proofs.lemmas.List.Concat.{length-flat_map}
use Rattle.std.proofs.lemmas.List.Sums.{sum_by-cons}
use Rattle.std.proofs.Math.Nat.{add-mul-mod_self_right, zero-mod}
use Rattle.std.proofs.Math.Seq.{take-append_seam, drop-append_seam}
use Rattle.std.proofs.lemmas.Grind.{div_ceil_times}
use Rattle.arrow_bits.specs.Numbers.{number_at, number_bytes, int_bytes}
use Rattle.arrow_types.specs.DataType.{TypeId}
use Rattle.arrow_types.specs.Field.{FieldTree, FieldHeader, none, more, width}
use Rattle.arrow_types.specs.declared.field.Encoding.{Encoding}
use Rattle.arrow_types.specs.declared.node.FieldNode.{FieldNode}
use Rattle.arrow_types.specs.declared.node.Buffer.{Buffer}
use Rattle.arrow_layout.specs.Form.{greatest_offset, node_form, number_width, offset_bytes}
use Rattle.arrow_layout.specs.Layout.{buffer}
use Rattle.arrow_layout.specs.PlainValue.{PlainValue, null_value, bool_value, int_value, binary_value, utf8_value, list_value, struct_value, value_at, is_null_value, field_value}
use Rattle.arrow_layout.specs.Slots.{is_valid_at}
use Rattle.arrow_layout.specs.declared.form.Form.{Form}
use Rattle.arrow_layout.specs.declared.form.Form.TheVariants as forms
use Rattle.arrow_layout.specs.declared.form.ListForm.{ListForm}
use Rattle.arrow_layout.specs.declared.form.ListForm.TheVariants as lists
use Rattle.arrow_layout.specs.declared.form.OffsetWidth.{OffsetWidth}
use Rattle.arrow_body_reader.specs.Sound.{lengths_of, nulls_of, own_bytes}
use Rattle.arrow_body_reader.specs.Taken.{below, flattened, own_buffers, taken_buffers, taken_nodes}
use Rattle.arrow_body_laws.specs.Laws.{StoredIsCanonical}
use Rattle.arrow_body_laws.specs.Packed.{packed, offsets_bytes}
use Rattle.arrow_body_laws.specs.Raws.{IsOwn, IsSmall, bytes_in_value, fixed_in, items_in_value, number_in, raws_below, truth_in}
use Rattle.arrow_body_laws.specs.Stored.{nulls_in, number_buffer, own_chunks, padded, places_from, rounded, stored, stored_chunks, validity_bytes}
use Rattle.arrow_body_laws.specs.Canonical.{AreAsLong, AreNullSlots, BelowNulls, IsNextMultiple, IsNodeCanonical, IsNullSlot, IsSpare, IsCanonicalBools, IsCanonicalFixed, IsCanonicalLayout, IsCanonicalOffsets, IsCanonicalValidity, LieInOrder, null_count_of}
use Rattle.arrow_body_laws.proofs.Bits.{packed_bit, packed_few, packed_spare, empty_spare}
use Rattle.arrow_body_laws.proofs.Layouts.{fixed_long, ints_long, nulls_are}
use Rattle.arrow_body_laws.proofs.Pieces.{HaveWidth, all_wide, length_int, offsets_long, piece, pieces_long, place_read, sum_next}
use Rattle.arrow_body_laws.proofs.Placed.{padded_long}
use Rattle.arrow_layout.proofs.Widths.{items_inside}
use Rattle.arrow_body_laws.proofs.Slotted.{all_fixed, all_items, read_valid}
use Rattle.arrow_body_laws.proofs.Soundness.{all_nodes, are_stored, lengths_below, places_long, slots_are}
use Rattle.arrow_body_laws.proofs.Walk.{AreStored, chunks_long, head_form, inner_raws, nodes_long, own_bytes_are, own_node_is, stored_inside, stored_next}

-- a multiple, and the rounded end after it
pub next_multiple : (align from n : ℕ) → 0 < align → from % align ≡ 0 → IsNextMultiple align (from + n) (from + rounded align n)
next_multiple align from n some multiple =
    let bounds = div_ceil_times n align some in
    record {
      multiple = add-mul-mod_self_right from (div_ceil n align) align ∙ multiple;
      past = omega (arith, bounds.0);
      near = omega (arith, bounds.1);
    }

-- buffers are in order
pub in_order : (align : ℕ) (front body : List ℕ) (from : ℕ) (chunks : List (List ℕ)) → 0 < align → from % align ≡ 0
    → body ≡ front ++ flat_map (padded align) chunks → from ≡ length front → LieInOrder align body from (places_from align from chunks)
in_order align front body from [] some multiple is at = ap length (is ∙ append-nil front) ∙ sym at
in_order align front body from (c ∷ cs) some multiple is at =
    let rest = flat_map (padded align) cs in
    let end = rounded align (length c) in
    let n = end - length c in
    let zeros : List ℕ = replicate n 0 in
    let place = next_multiple align from (length c) some multiple in
    let next : body ≡ (front ++ padded align c) ++ rest = is ∙ sym (append_assoc front (padded align c) rest) in
    let later : from + end ≡ length (front ++ padded align c) = omega (arith, at, length-append front (padded align c), padded_long align c some) in
    let split : body ≡ (front ++ c) ++ (zeros ++ rest) = is ∙ ap (λ b. front ++ b) (append_assoc c zeros rest) ∙ sym (append_assoc front c (zeros ++ rest)) in
    let seam : from + length c ≡ length (front ++ c) = omega (arith, at, length-append front c) in
    let many : from + end - (from + length c) ≡ n = omega arith in
    let blank : take n (drop (from + length c) body) ≡ zeros =
    ap (λ k. take n (drop k body)) seam
    ∙ ap (λ b. take n (drop (length (front ++ c)) b)) split
    ∙ ap (take n) (drop-append_seam (front ++ c) (zeros ++ rest))
    ∙ ap (λ k. take k (zeros ++ rest)) (sym (length-replicate {A = ℕ} n 0))
    ∙ take-append_seam zeros rest in
    let padding : take (from + end - (from + length c)) (drop (from + length c) body) ≡ replicate (from + end - (from + length c)) 0 =
    subst (λ k. take k (drop (from + length c) body) ≡ replicate k 0) (sym many) blank in
    (refl, omega (arith, ints), (from + end, place, padding, in_order align (front ++ padded align c) body (from + end) cs some place.multiple next later))

-- the bitmap
validity_by : (b : Bool) (vs : List PlainValue) → nat_eq (nulls_in vs) 0 ≡ b → nulls_of (length vs) (if b then [] else packed (map (λ v. not (is_null_value v)) vs)) ≡ nulls_in vs
    → IsCanonicalValidity (length vs) (if b then [] else packed (map (λ v. not (is_null_value v)) vs))
validity_by true vs e same = λ h. absurd (omega (arith, h))
validity_by false vs e same = λ h. (
  packed_few (map (λ v. not (is_null_value v)) vs) ∙ ap (λ n. div_ceil n 8) (length-map vs (λ v. not (is_null_value v))),
  omega (arith, same, some (nulls_in vs) (eqb-false (nulls_in vs) 0 e)),
)
  where
    some : (n : ℕ) → (n ≡ 0 → ⊥) → 0 < n
    some zero h = absurd (h refl)
    some (suc n) h = omega arith

pub canonical_validity : (vs : List PlainValue) → IsCanonicalValidity (length vs) (validity_bytes vs)
canonical_validity vs = validity_by (nat_eq (nulls_in vs) 0) vs refl (nulls_are vs)

spare_by : (b : Bool) (vs : List PlainValue) → IsSpare (length vs) (if b then [] else packed (map (λ v. not (is_null_value v)) vs))
spare_by true vs = λ j h. empty_spare j
spare_by false vs = λ j h. packed_spare (map (λ v. not (is_null_value v)) vs) j (omega (arith, h, length-map vs (λ v. not (is_null_value v))))

pub canonical_spare : (vs : List PlainValue) → IsSpare (length vs) (validity_bytes vs)
canonical_spare vs = spare_by (nat_eq (nulls_in vs) 0) vs

null_by : (v : PlainValue) → not (is_null_value v) ≡ false → v ≡ null_value
null_by null_value h = refl
null_by (bool_value b) h = cc
null_by (int_value b) h = cc
null_by (binary_value b) h = cc
null_by (utf8_value b) h = cc
null_by (list_value b) h = cc
null_by (struct_value b) h = cc

-- a slot that is not valid is null
pub null_at : (vs : List PlainValue) (j : ℕ) → j < length vs → is_valid_at (validity_bytes vs) j ≡ false → value_at vs j ≡ null_value
null_at vs j h hidden = null_by (value_at vs j) (sym (read_valid vs j h) ∙ hidden)

-- the bytes of the number 0
pub zeros_of : (w : ℕ) → number_bytes w 0 ≡ replicate w 0
zeros_of zero = refl
zeros_of (suc w) = ap (λ bytes. 0 ∷ bytes) (zeros_of w)

-- the range of bytes that is a piece
part_is : {X : Type 0} (f : X → List ℕ) (w : ℕ) (xs : List X) → HaveWidth f w xs → (j : ℕ) (d : X) → j < length xs
    → take (w * j + w - w * j) (drop (w * j) (flat_map f xs)) ≡ f (get_or xs j d)
part_is f w xs long j d h =
    let wide : w * j + w - w * j ≡ w = omega arith in
    ap (λ n. take n (drop (w * j) (flat_map f xs))) wide ∙ piece f w xs long j d h

-- numbers
canonical_ints : (w : ℕ) (vs : List PlainValue) → IsCanonicalFixed (length vs) w (validity_bytes vs) (number_buffer w vs)
canonical_ints w vs = record {
  just = ints_long w vs;
  zero_bytes = λ j h hidden.
      part_is (int_bytes w) w (map number_in vs) (all_wide (int_bytes w) w (length_int w) (map number_in vs)) j (pos 0) (omega (arith, h, length-map vs number_in))
      ∙ ap (int_bytes w) (get_or-map number_in vs j null_value (pos 0) h ∙ ap number_in (null_at vs j h hidden))
      ∙ zeros_of w;
}

-- bytes of a fixed width
canonical_fixed : (w : ℕ) (c : FieldTree) (vs : List PlainValue) → AllByRecursion (IsOwn (forms.FixedBytes w) c) vs → IsCanonicalFixed (length vs) w (validity_bytes vs) (flat_map (fixed_in w) vs)
canonical_fixed w c vs own = record {
  just = fixed_long w c vs own;
  zero_bytes = λ j h hidden. part_is (fixed_in w) w vs (all_fixed w c vs own) j null_value h ∙ ap (fixed_in w) (null_at vs j h hidden);
}

-- truth values
canonical_bools : (vs : List PlainValue) → IsCanonicalBools (length vs) (validity_bytes vs) (packed (map truth_in vs))
canonical_bools vs = record {
  just = packed_few (map truth_in vs) ∙ ap (λ n. div_ceil n 8) (length-map vs truth_in);
  spare = λ j h. packed_spare (map truth_in vs) j (omega (arith, h, length-map vs truth_in));
  zero_bits = λ j h hidden.
      packed_bit (map truth_in vs) j (omega (arith, h, length-map vs truth_in)) ∙ get_or-map truth_in vs j null_value false h ∙ ap truth_in (null_at vs j h hidden);
}

pub all_taken : {X : Type 0} (xs : List X) → take (length xs) xs ≡ xs
all_taken xs = take_all (length xs) xs (omega arith)

-- offset 0
first_place : {X : Type 0} (w : OffsetWidth) (f : X → ℕ) (xs : List X) → sum_by f xs ≤ greatest_offset w → number_at (offsets_bytes w (map f xs)) (offset_bytes w * 0) (offset_bytes w) ≡ 0
first_place w f xs near = place_read w f xs 0 (omega arith) near

canonical_offsets : (w : OffsetWidth) (f : PlainValue → ℕ) (vs : List PlainValue) (top : ℕ) → f null_value ≡ 0 → sum_by f vs ≤ greatest_offset w → top ≡ sum_by f vs
    → IsCanonicalOffsets w (length vs) (validity_bytes vs) (offsets_bytes w (map f vs)) top
canonical_offsets w f vs top nothing near is = record {
  just = offsets_long w f vs;
  begins = first_place w f vs near;
  ends = place_read w f vs (length vs) (omega arith) near ∙ ap (sum_by f) (all_taken vs) ∙ sym is;
  empty = λ j h hidden.
      omega (arith, place_read w f vs j (omega (arith, h)) near, place_read w f vs (j + 1) (omega (arith, h)) near, sum_next f vs j null_value h, ap f (null_at vs j h hidden), nothing);
}

as_long : (vs : List PlainValue) (a n : ℕ) → AreAsLong (length vs) (map length (map (λ k. map (field_value k) vs) (range_with_len a n)))
as_long vs a zero = tt
as_long vs a (suc n) = (length-map vs (field_value a), as_long vs (a + 1) n)

-- the buffers of a node
pub canonical_layout : (form : Form) (c : FieldTree) (vs : List PlainValue) → AllByRecursion (IsOwn form c) vs → IsSmall form vs
    → IsCanonicalLayout form (length vs) (own_chunks form vs) (map length (raws_below form c vs))
canonical_layout forms.Nulls c vs own small = tt
canonical_layout forms.Bits c vs own small = canonical_bools vs
canonical_layout (forms.Numbers number) c vs own small = canonical_ints (number_width number) vs
canonical_layout (forms.Bytes w) c vs own small = canonical_offsets w (λ v. length (bytes_in_value v)) vs (length (flat_map bytes_in_value vs)) refl small.near (length-flat_map bytes_in_value vs)
canonical_layout (forms.Texts w) c vs own small = canonical_offsets w (λ v. length (bytes_in_value v)) vs (length (flat_map bytes_in_value vs)) refl small.near (length-flat_map bytes_in_value vs)
canonical_layout (forms.FixedBytes w) c vs own small = canonical_fixed w c vs own
canonical_layout (forms.Lists (lists.Offsets w)) c vs own small = canonical_offsets w (λ v. length (items_in_value 0 v)) vs (length (flat_map (items_in_value 0) vs)) refl small.near (length-flat_map (items_in_value 0) vs)
canonical_layout (forms.Lists (lists.Fixed size)) c vs own small = (pieces_long (items_in_value size) size vs (all_items size c vs own), tt)
canonical_layout forms.Structs c vs own small = as_long vs 0 (width c)

-- the node's count
all_null : (c : FieldTree) (v : PlainValue) → IsOwn forms.Nulls c v → ◌≡◌ {A = ℕ} (cond (is_null_value v) 1 0) 1
all_null c null_value own = refl
all_null c (bool_value b) own = cc
all_null c (int_value b) own = absurd own
all_null c (binary_value b) own = absurd own
all_null c (utf8_value b) own = absurd own
all_null c (list_value b) own = absurd own
all_null c (struct_value b) own = let other = own.0 in cc

nulls_all : (c : FieldTree) (vs : List PlainValue) → AllByRecursion (IsOwn forms.Nulls c) vs → nulls_in vs ≡ length vs
nulls_all c [] own = refl
nulls_all c (v ∷ vs) own = omega (arith, sum_by-cons (λ v. cond (is_null_value v) 1 0) v vs, all_null c v own.0, nulls_all c vs own.1)

pub canonical_count : (form : Form) (c : FieldTree) (vs : List PlainValue) → AllByRecursion (IsOwn form c) vs
    → nulls_in vs ≡ null_count_of form (length vs) (buffer (own_chunks form vs) 0)
canonical_count forms.Nulls c vs own = nulls_all c vs own
canonical_count forms.Bits c vs own = sym (nulls_are vs)
canonical_count (forms.Numbers number) c vs own = sym (nulls_are vs)
canonical_count (forms.Bytes w) c vs own = sym (nulls_are vs)
canonical_count (forms.Texts w) c vs own = sym (nulls_are vs)
canonical_count (forms.FixedBytes w) c vs own = sym (nulls_are vs)
canonical_count (forms.Lists w) c vs own = sym (nulls_are vs)
canonical_count forms.Structs c vs own = sym (nulls_are vs)

-- the first buffer is the bitmap, or there is no buffer
first_is : (P : List ℕ → Type 0) (form : Form) (vs : List PlainValue) → P (validity_bytes vs) → P [] → P (buffer (own_chunks form vs) 0)
first_is P forms.Nulls vs p q = q
first_is P forms.Bits vs p q = p
first_is P (forms.Numbers number) vs p q = p
first_is P (forms.Bytes w) vs p q = p
first_is P (forms.Texts w) vs p q = p
first_is P (forms.FixedBytes w) vs p q = p
first_is P (forms.Lists w) vs p q = p
first_is P forms.Structs vs p q = p

-- a null slot of a stored column
null_slot_by : (form : Form) (vs : List PlainValue) (j : ℕ) → is_valid_at (validity_bytes vs) j ≡ false → IsNullSlot form (own_chunks form vs) j
null_slot_by forms.Nulls vs j p = tt
null_slot_by forms.Bits vs j p = p
null_slot_by (forms.Numbers number) vs j p = p
null_slot_by (forms.Bytes w) vs j p = p
null_slot_by (forms.Texts w) vs j p = p
null_slot_by (forms.FixedBytes w) vs j p = p
null_slot_by (forms.Lists w) vs j p = p
null_slot_by forms.Structs vs j p = p

null_slot : (form : Form) (vs : List PlainValue) (j : ℕ) → j < length vs → value_at vs j ≡ null_value → IsNullSlot form (own_chunks form vs) j
null_slot form vs j h is = null_slot_by form vs j (read_valid vs j h ∙ ap (λ v. not (is_null_value v)) is)

-- slot j of these values is null
abbrev IsNullAt : ℕ → List PlainValue → Type 0
IsNullAt j vs = (j < length vs) × (value_at vs j ≡ null_value)

-- the same in a stored body, for all columns
null_slots : (body : List ℕ) (j : ℕ) (fields : FieldTree) (raws : List (List PlainValue)) (ns : List FieldNode) (bs : List Buffer) → AreStored body fields raws ns bs
    → AllByRecursion (IsNullAt j) raws → AreNullSlots body j fields ns bs
null_slots body j none raws ns bs s nulls = tt
null_slots body j (more h c rest) [] ns bs s nulls = absurd s.raw
null_slots body j (more h c rest) (vs ∷ raws) ns bs s nulls = (
  subst (λ b. IsNullSlot (head_form h) b j) (sym (own_bytes_are body h c rest vs raws ns bs s)) (null_slot (head_form h) vs j nulls.0.0 nulls.0.1),
  null_slots body j rest raws (drop (1 + flattened h.encoding (taken_nodes c)) ns) (drop (own_buffers h + flattened h.encoding (taken_buffers c)) bs) (stored_next body h c rest vs raws ns bs s) nulls.1,
)

-- the parts of a null are null
nulls_in_parts : (vs : List PlainValue) (j a n : ℕ) → j < length vs → value_at vs j ≡ null_value → AllByRecursion (IsNullAt j) (map (λ k. map (field_value k) vs) (range_with_len a n))
nulls_in_parts vs j a zero h is = tt
nulls_in_parts vs j a (suc n) h is =
    ((omega (arith, h, length-map vs (field_value a)), get_or-map (field_value a) vs j null_value null_value h ∙ ap (field_value a) is), nulls_in_parts vs j (a + 1) n h is)

-- the items under a null are null
null_in_items : (size : ℕ) (c : FieldTree) (vs : List PlainValue) (j k : ℕ) → AllByRecursion (IsOwn (forms.Lists (lists.Fixed size)) c) vs → j < length vs → k < size → value_at vs j ≡ null_value
    → IsNullAt (size * j + k) (flat_map (items_in_value size) vs)
null_in_items size c vs j k own h small is =
    let child = flat_map (items_in_value size) vs in
    let wide = all_items size c vs own in
    let many = pieces_long (items_in_value size) size vs wide in
    let next : size * j + size ≡ size * (j + 1) = omega arith in
    let inside = items_inside size j (length vs) (length child) h (omega (arith, many)) in (
      omega (arith, small, next, inside.1),
      sym (get_or-drop (size * j) child k null_value) ∙ sym (get_or-take size (drop (size * j) child) k null_value small)
          ∙ ap (λ xs. value_at xs k) (piece (items_in_value size) size vs wide j null_value h ∙ ap (items_in_value size) is)
          ∙ get_or-replicate size k null_value null_value small,
    )

-- how many slots the children of structs have, and the child of fixed-size lists
abbrev pub slots_below : Form → ℕ → ℕ
slots_below forms.Nulls len = 0
slots_below forms.Bits len = 0
slots_below (forms.Numbers number) len = 0
slots_below (forms.Bytes w) len = 0
slots_below (forms.Texts w) len = 0
slots_below (forms.FixedBytes w) len = 0
slots_below (forms.Lists (lists.Offsets w)) len = 0
slots_below (forms.Lists (lists.Fixed size)) len = size * len
slots_below forms.Structs len = len

-- the slot of an item is one of these
pub item_below : (size j k len : ℕ) → j < len → k < size → size * j + k < size * len
item_below size j k len h small =
    let next : size * j + size ≡ size * (j + 1) = omega arith in
    omega (arith, small, next, (items_inside size j len (size * len) h (omega arith)).1)

-- the nulls below a null
below_nulls : (form : Form) (c : FieldTree) (vs : List PlainValue) (P : ℕ → Type 0) → AllByRecursion (IsOwn form c) vs
    → ((j : ℕ) → j < slots_below form (length vs) → AllByRecursion (IsNullAt j) (raws_below form c vs) → P j) → BelowNulls form (length vs) (buffer (own_chunks form vs) 0) P
below_nulls forms.Nulls c vs P own p = tt
below_nulls forms.Bits c vs P own p = tt
below_nulls (forms.Numbers number) c vs P own p = tt
below_nulls (forms.Bytes w) c vs P own p = tt
below_nulls (forms.Texts w) c vs P own p = tt
below_nulls (forms.FixedBytes w) c vs P own p = tt
below_nulls (forms.Lists (lists.Offsets w)) c vs P own p = tt
below_nulls (forms.Lists (lists.Fixed size)) c vs P own p = λ j h hidden k small. p (size * j + k) (item_below size j k (length vs) h small) (null_in_items size c vs j k own h small (null_at vs j h hidden), tt)
below_nulls forms.Structs c vs P own p = λ j h hidden. p j h (nulls_in_parts vs j 0 (width c) h (null_at vs j h hidden))

-- only a node without an encoding has slots below it
pub plain_above : (tag : TypeId) (e : Option Encoding) (len j : ℕ) → j < slots_below (node_form tag e) len → e ≡ None
plain_above tag None len j h = refl
plain_above tag (Some e) len j h = absurd (omega (arith, h))

-- a field's own node and buffers are canonical
pub node_canonical : (body : List ℕ) (h : FieldHeader) (c rest : FieldTree) (vs : List PlainValue) (raws : List (List PlainValue)) (ns : List FieldNode) (bs : List Buffer) → AreStored body (more h c rest) (vs ∷ raws) ns bs → IsNodeCanonical body h c ns bs
node_canonical body h c rest vs raws ns bs s =
    let form = head_form h in
    let node = own_node_is body h c rest vs raws ns bs s in
    let long = slots_are body h c rest vs raws ns bs s in
    let bytes = own_bytes_are body h c rest vs raws ns bs s in
    let counts = lengths_below body h c rest vs raws ns bs s in
    let nulls : ℕ → Type 0 = λ j. AreNullSlots body j c (drop 1 ns) (drop (own_buffers h) bs) in
    record {
      counted = ap (λ (n : FieldNode). n.null_count) node ∙ ap pos (canonical_count form c vs s.raw.0)
          ∙ (λ i. pos (null_count_of form (sym long i) (buffer (sym bytes i) 0)));
      validity = subst (λ n. IsCanonicalValidity n (buffer (own_bytes body h bs) 0)) (sym long)
          (subst (λ b. IsCanonicalValidity (length vs) (buffer b 0)) (sym bytes) (first_is (IsCanonicalValidity (length vs)) form vs (canonical_validity vs) (λ p. absurd (omega (arith, p)))));
      spare = subst (λ n. IsSpare n (buffer (own_bytes body h bs) 0)) (sym long)
          (subst (λ b. IsSpare (length vs) (buffer b 0)) (sym bytes) (first_is (IsSpare (length vs)) form vs (canonical_spare vs) (λ j p. empty_spare j)));
      layout = subst (λ n. IsCanonicalLayout form n (own_bytes body h bs) (lengths_of (below h.encoding c) (drop 1 ns))) (sym long)
          (subst (λ b. IsCanonicalLayout form (length vs) b (lengths_of (below h.encoding c) (drop 1 ns))) (sym bytes)
          (subst (λ k. IsCanonicalLayout form (length vs) (own_chunks form vs) k) (sym counts) (canonical_layout form c vs s.raw.0 s.small.0)));
      hidden = subst (λ n. BelowNulls form n (buffer (own_bytes body h bs) 0) nulls) (sym long)
          (subst (λ b. BelowNulls form (length vs) (buffer b 0) nulls) (sym bytes)
          (below_nulls form c vs nulls s.raw.0
          (λ j there all. null_slots body j c (inner_raws h c vs) (drop 1 ns) (drop (own_buffers h) bs) (stored_inside body h c rest vs raws ns bs s (plain_above h.tag h.encoding (length vs) j there)) all)));
    }

-- a stored body is canonical
pub is_canonical : StoredIsCanonical
is_canonical = λ align fields raws some raw small.
    let s = are_stored align fields raws some raw small in
    let b = stored align fields raws in
    record {
      just_nodes = nodes_long fields raws raw;
      just_buffers = places_long align 0 (stored_chunks fields raws) ∙ chunks_long fields raws raw;
      ordered = in_order align [] b.bytes 0 (stored_chunks fields raws) some (zero-mod align) refl refl;
      nodes_canonical = all_nodes (IsNodeCanonical b.bytes) b.bytes (node_canonical b.bytes) fields raws b.nodes b.buffers s;
    }
