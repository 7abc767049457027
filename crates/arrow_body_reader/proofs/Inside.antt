-- Why everything that the slots of a valid body refer to lies inside the body.
use Rattle.std.proofs.Common.{◌≡◌, ◌≤◌, ◌<◌, ◌+◌, ◌-◌, ◌*◌, ℕ, zero, suc, ℤ, pos, negsuc, List, [], ◌∷◌, length, map, take, drop, get_or, Option, Some, None, refl, sym, subst, arith}
use Rattle.std.specs.Prelude.{◌≤ℤ◌}
use Rattle.std.specs.List.{AllByRecursion}
use Rattle.std.proofs.lemmas.Int.{ints}
use Rattle.std.proofs.lemmas.List.{get_or-drop}
use Rattle.std.proofs.lemmas.Nat.{column_fits}
use Rattle.arrow_bits.proofs.Reading.{bytes_take}
use Rattle.arrow_bits.proofs.Rising.{offsets_order, plain_offset}
use Rattle.arrow_bits.specs.Offsets.{AreOffsetsOf, offset_of}
use Rattle.arrow_types.specs.Field.{FieldTree, none, more}
use Rattle.arrow_types.specs.declared.field.Encoding.{Encoding}
use Rattle.arrow_types.specs.declared.node.FieldNode.{FieldNode}
use Rattle.arrow_types.specs.declared.node.Buffer.{Buffer}
use Rattle.arrow_data.specs.Column.{ValueList}
use Rattle.arrow_layout.specs.Form.{node_form, number_width, offset_bytes}
use Rattle.arrow_layout.specs.Layout.{buffer, child_count, list_offsets, HoldsSlots}
use Rattle.arrow_layout.specs.ByteRanges.{AreBytes}
use Rattle.arrow_layout.specs.Slots.{HasBits, HasItemPlaces, HasOffsets}
use Rattle.arrow_layout.specs.declared.form.Form.{Form}
use Rattle.arrow_layout.specs.declared.form.Form.TheVariants as forms
use Rattle.arrow_layout.specs.declared.form.ListForm.{ListForm}
use Rattle.arrow_layout.specs.declared.form.ListForm.TheVariants as lists
use Rattle.arrow_layout.specs.declared.form.OffsetWidth.{OffsetWidth}
use Rattle.arrow_layout.proofs.Widths.{items_inside}
use Rattle.arrow_body_reader.proofs.Columns.{sound_inside, sound_next}
use Rattle.arrow_body_reader.proofs.Taking.{buffer_after, node_after, there_parts}
use Rattle.arrow_body_reader.specs.Held.{bytes_in, count_of}
use Rattle.arrow_body_reader.specs.Inside.{HasItemsInside, HasRange, HasValidity, HasWidth, IsNodeInside, IsSlotInside}
use Rattle.arrow_body_reader.specs.Sound.{IsSound, lengths_of, own_bytes, slots_at}
use Rattle.arrow_body_reader.specs.Taken.{AllNodes, IfFlattened, below, flattened, own_buffers, taken_buffers, taken_nodes}

-- the bytes of a buffer are bytes
buffer_small : (body : List ℕ) (bs : List Buffer) (k : ℕ) → AreBytes body → AreBytes (get_or (map (bytes_in body) bs) k [])
buffer_small body [] k small = λ i. omega arith
buffer_small body (b ∷ bs) zero small = bytes_take (count_of b.length) (drop (count_of b.offset) body) (λ i. rw (get_or-drop (count_of b.offset) body i 0) (small (count_of b.offset + i)))
buffer_small body (b ∷ bs) (suc k) small = buffer_small body bs k small

-- the bit of a slot in a bitmap
valid_inside : (len j : ℕ) (validity : List ℕ) → HasBits len validity → j < len → HasValidity j validity
valid_inside len j validity bits h = λ some. omega (arith, bits some, h)

-- the bytes of a slot
width_inside : (width len j : ℕ) (values : List ℕ) → width * len ≤ length values → j < len → HasWidth width j values
width_inside width len j values long h = omega (arith, long, column_fits width j width len h (omega arith))

-- the range of a slot
range_inside : (width : OffsetWidth) (len top j : ℕ) (offsets : List ℕ) → AreBytes offsets → HasOffsets width len top offsets → j < len → HasRange width j top offsets
range_inside width len top j offsets small rising h =
    let n = offset_bytes width in
    let are : AreOffsetsOf n offsets len top = rising (omega (arith, h)) in
    let here = plain_offset n offsets len top small are j (omega (arith, h)) in
    let next = plain_offset n offsets len top small are (j + 1) (omega (arith, h)) in
    let gap : j + 1 + (len - (j + 1)) ≡ len = omega (arith, h) in
    let far = subst (λ m. offset_of n offsets (j + 1) ≤ℤ offset_of n offsets m) gap (offsets_order n offsets len top are (j + 1) (len - (j + 1)) (omega (arith, gap))) in
    record {
      there = width_inside n (len + 1) (j + 1) offsets are.there (omega (arith, h));
      order = omega (arith, ints, here, next, are.rise j h);
      within = omega (arith, ints, next, far, are.last);
    }

-- the items of a list
list_inside : (list : ListForm) (len top j : ℕ) (b : List (List ℕ)) → ((k : ℕ) → AreBytes (buffer b k)) → HasItemPlaces list len top (list_offsets list b) → j < len → HasItemsInside list j top b
list_inside (lists.Offsets width) len top j b small rising h = range_inside width len top j (buffer b 1) (small 1) rising h
list_inside (lists.Fixed size) len top j b small long h = (items_inside size j len top h long).1

-- the slot of each child
children_inside : (len j : ℕ) (counts : List ℕ) → AllByRecursion (λ count. len ≤ count) counts → j < len → AllByRecursion (λ count. j < count) counts
children_inside len j [] longer h = tt
children_inside len j (n ∷ ns) longer h = (omega (arith, longer.0, h), children_inside len j ns longer.1 h)

-- a slot of a node whose buffers and children hold its slots
slot_inside : (form : Form) (len j : ℕ) (b : List (List ℕ)) (counts : List ℕ) → ((k : ℕ) → AreBytes (buffer b k)) → HoldsSlots form len b counts → j < len → IsSlotInside form j b counts
slot_inside forms.Nulls len j b counts small laid h = tt
slot_inside forms.Bits len j b counts small laid h = (valid_inside len j (buffer b 0) laid.bits h, omega (arith, laid.long, h))
slot_inside (forms.Numbers number) len j b counts small laid h = (valid_inside len j (buffer b 0) laid.bits h, width_inside (number_width number) len j (buffer b 1) laid.long h)
slot_inside (forms.Bytes width) len j b counts small laid h = (valid_inside len j (buffer b 0) laid.bits h, range_inside width len (length (buffer b 2)) j (buffer b 1) (small 1) laid.rising h)
slot_inside (forms.Texts width) len j b counts small laid h = (valid_inside len j (buffer b 0) laid.bits h, range_inside width len (length (buffer b 2)) j (buffer b 1) (small 1) laid.rising h)
slot_inside (forms.FixedBytes width) len j b counts small laid h = (valid_inside len j (buffer b 0) laid.bits h, width_inside width len j (buffer b 1) laid.long h)
slot_inside (forms.Lists list) len j b counts small laid h = (valid_inside len j (buffer b 0) laid.bits h, list_inside list len (child_count counts) j b small laid.rising h)
slot_inside forms.Structs len j b counts small laid h = (valid_inside len j (buffer b 0) laid.bits h, children_inside len j counts laid.longer h)

-- a number that is not negative is the natural number that `count_of` makes of it
count_reported : (n : ℤ) → pos 0 ≤ℤ n → n ≡ pos (count_of n)
count_reported (pos n) sign = refl
count_reported (negsuc n) sign = absurd (omega (arith, ints, sign))

-- the fields below a field, if there are any
if_sound : (body : List ℕ) (ds : List (ℤ × ValueList)) (e : Option Encoding) (c : FieldTree) (ns : List FieldNode) (bs : List Buffer) (Q : Type 0)
    → (IsSound body ds c ns bs → Q) → IsSound body ds (below e c) ns bs → IfFlattened e Q
if_sound body ds None c ns bs Q f sound = f sound
if_sound body ds (Some e) c ns bs Q f sound = tt

-- all nodes and buffers, and all slots
pub nodes_inside : (body : List ℕ) (ds : List (ℤ × ValueList)) (fields : FieldTree) (ns : List FieldNode) (bs : List Buffer) → AreBytes body → IsSound body ds fields ns bs → AllNodes (IsNodeInside body) fields ns bs
nodes_inside body ds none ns bs small sound = tt
nodes_inside body ds (more h c rest) ns bs small sound =
    let parts = there_parts h c rest ns bs sound.there in
    let own = sound.laid.0 in
    let ns' = drop (1 + flattened h.encoding (taken_nodes c)) ns in
    let bs' = drop (own_buffers h + flattened h.encoding (taken_buffers c)) bs in (
      record {
        node = omega (arith, parts.0);
        reported = count_reported _ own.sign;
        there = parts.1;
        held = own.held;
        slots = λ j inside. slot_inside (node_form h.tag h.encoding) (slots_at ns) j (own_bytes body h bs) (lengths_of (below h.encoding c) (drop 1 ns)) (λ k. buffer_small body (take (own_buffers h) bs) k small) own.laid inside;
      },
      if_sound body ds h.encoding c (drop 1 ns) (drop (own_buffers h) bs) (AllNodes (IsNodeInside body) c (drop 1 ns) (drop (own_buffers h) bs))
          (nodes_inside body ds c (drop 1 ns) (drop (own_buffers h) bs) small) (sound_inside body ds h c rest ns bs sound),
      nodes_inside body ds rest ns' bs' small (sound_next body ds h c rest ns ns' bs bs' sound (sym (node_after h c ns _ refl)) (sym (buffer_after h c bs _ refl))),
    )
