-- The buffers of a stored body hold the slots.
use Rattle.std.proofs.Common.{◌≡◌, ℕ, zero, suc, ◌+◌, ◌*◌, ◌<◌, ◌≤◌, Bool, true, false, cond, not, List, [], ◌∷◌, length, map, take, refl, ap, ◌∙◌, sym, subst, arith, inr, if◌then◌else◌}
use Rattle.std.specs.Prelude.{pos, nat_eq, IsUtf8, count_by}
use Rattle.std.specs.List.{AllByRecursion, flat_map, sum_by, range_with_len}
use Rattle.std.proofs.lemmas.Bool.{eqb-true, eqb-false}
use Rattle.std.proofs.lemmas.List.{get_or-map, length-map, same_lists}
use Rattle.std.proofs.lemmas.List.Concat.{length-flat_map}
use Rattle.std.proofs.lemmas.List.FromFn.{get_or-map-range_with_len}
use Rattle.std.proofs.lemmas.List.Sums.{sum_by-cons, sum_by-take-le, count_by-le-length}
use Rattle.arrow_bits.specs.Bitmap.{bit_of, bits_of}
use Rattle.arrow_bits.specs.Numbers.{int_bytes, number_at}
use Rattle.arrow_bits.proofs.Listed.{length_bits}
use Rattle.arrow_bits.proofs.Rising.{offsets_from_numbers}
use Rattle.arrow_types.specs.Field.{FieldTree, width}
use Rattle.arrow_layout.specs.Form.{greatest_offset, number_width, offset_bytes}
use Rattle.arrow_layout.specs.Layout.{HasBools, HasFixed, HasStrings, HoldsSlots, HoldsTexts, buffer, list_offsets}
use Rattle.arrow_layout.specs.PlainValue.{PlainValue, null_value, bool_value, int_value, binary_value, utf8_value, list_value, struct_value, value_at, is_null_value, field_value}
use Rattle.arrow_layout.specs.Slots.{HasBits, HasItemPlaces, HasOffsets, AreTexts}
use Rattle.arrow_layout.specs.declared.form.Form.{Form}
use Rattle.arrow_layout.specs.declared.form.Form.TheVariants as forms
use Rattle.arrow_layout.specs.declared.form.ListForm.{ListForm}
use Rattle.arrow_layout.specs.declared.form.ListForm.TheVariants as lists
use Rattle.arrow_layout.specs.declared.form.OffsetWidth.{OffsetWidth}
use Rattle.arrow_body_reader.specs.Sound.{IsCount, IsCountOf, nulls_of}
use Rattle.arrow_body_laws.specs.Packed.{packed, offsets_bytes}
use Rattle.arrow_body_laws.specs.Raws.{IsOwn, IsSmall, bytes_in_value, fixed_in, item_limit, items_in_value, last_item, nulls_under, number_in, raws_below, truth_in}
use Rattle.arrow_body_laws.specs.Stored.{list_chunks, nulls_in, number_buffer, own_chunks, own_node, validity_bytes}
use Rattle.arrow_body_laws.proofs.Bits.{packed_few}
use Rattle.arrow_body_laws.proofs.Pieces.{all_wide, length_int, offset_half, offsets_long, pieces_long, place_read, sum_next}
use Rattle.arrow_body_laws.proofs.Slotted.{all_fixed, all_items, bitmap_bit, in_slot, not_zero, read_range, read_valid}

bits_by : (b : Bool) (vs : List PlainValue) → HasBits (length vs) (if b then [] else packed (map (λ v. not (is_null_value v)) vs))
bits_by true vs = λ h. absurd (omega (arith, h))
bits_by false vs = λ h. omega (arith, packed_few (map (λ v. not (is_null_value v)) vs), length-map vs (λ v. not (is_null_value v)))

-- the bitmap has a bit for each slot, or is absent
pub has_bits : (vs : List PlainValue) → HasBits (length vs) (validity_bytes vs)
has_bits vs = bits_by (nat_eq (nulls_in vs) 0) vs

-- a number for each slot
pub ints_long : (w : ℕ) (vs : List PlainValue) → length (number_buffer w vs) ≡ w * length vs
ints_long w vs = pieces_long (int_bytes w) w (map number_in vs) (all_wide (int_bytes w) w (length_int w) (map number_in vs)) ∙ ap (λ n. w * n) (length-map vs number_in)

has_ints : (w : ℕ) (vs : List PlainValue) → HasFixed (length vs) w (validity_bytes vs) (number_buffer w vs)
has_ints w vs = record { bits = has_bits vs; long = omega (arith, ints_long w vs) }

-- the bytes of the width for each slot
pub fixed_long : (w : ℕ) (c : FieldTree) (vs : List PlainValue) → AllByRecursion (IsOwn (forms.FixedBytes w) c) vs → length (flat_map (fixed_in w) vs) ≡ w * length vs
fixed_long w c vs own = pieces_long (fixed_in w) w vs (all_fixed w c vs own)

has_fixed : (w : ℕ) (c : FieldTree) (vs : List PlainValue) → AllByRecursion (IsOwn (forms.FixedBytes w) c) vs → HasFixed (length vs) w (validity_bytes vs) (flat_map (fixed_in w) vs)
has_fixed w c vs own = record { bits = has_bits vs; long = omega (arith, fixed_long w c vs own) }

-- a bit for each slot
has_bools : (vs : List PlainValue) → HasBools (length vs) (validity_bytes vs) (packed (map truth_in vs))
has_bools vs = record { bits = has_bits vs; long = omega (arith, packed_few (map truth_in vs), length-map vs truth_in) }

-- offsets that rise up to the top
has_offsets : {X : Type 0} (w : OffsetWidth) (f : X → ℕ) (xs : List X) (top : ℕ) → sum_by f xs ≤ greatest_offset w → sum_by f xs ≤ top → HasOffsets w (length xs) top (offsets_bytes w (map f xs))
has_offsets w f xs top near inside =
    let bytes = offsets_bytes w (map f xs) in
    let last = place_read w f xs (length xs) (omega arith) near in
    let all = sum_by-take-le f xs (length xs) in
    λ _. offsets_from_numbers (offset_bytes w) bytes (length xs) top (omega (arith, offsets_long w f xs))
    (offset_half w (number_at bytes (offset_bytes w * length xs) (offset_bytes w)) (omega (arith, last, all, near)))
    (omega (arith, last, all, inside))
    (λ j low h. omega (arith, place_read w f xs j (omega (arith, h)) near, place_read w f xs (j + 1) (omega (arith, h)) near, rises f xs j h))
  where
    rises : {X : Type 0} (f : X → ℕ) (xs : List X) (j : ℕ) → j < length xs → sum_by f (take j xs) ≤ sum_by f (take (j + 1) xs)
    rises f [] j h = absurd (omega (arith, h))
    rises f (x ∷ xs) j h = omega (arith, sum_next f (x ∷ xs) j x h)

-- the bytes of the slots, and the items
strings_long : (vs : List PlainValue) → sum_by (λ v. length (bytes_in_value v)) vs ≤ length (flat_map bytes_in_value vs)
strings_long vs = omega (arith, length-flat_map bytes_in_value vs)

items_long : (vs : List PlainValue) → sum_by (λ v. length (items_in_value 0 v)) vs ≤ length (flat_map (items_in_value 0) vs)
items_long vs = omega (arith, length-flat_map (items_in_value 0) vs)

-- the items of lists, in a child that has exactly these
has_items : (w : ListForm) (c : FieldTree) (vs : List PlainValue) → AllByRecursion (IsOwn (forms.Lists w) c) vs → last_item w vs ≤ item_limit w
    → HasItemPlaces w (length vs) (length (flat_map (items_in_value (nulls_under w)) vs)) (list_offsets w (validity_bytes vs ∷ list_chunks w vs))
has_items (lists.Offsets w) c vs own near = has_offsets w (λ v. length (items_in_value 0 v)) vs (length (flat_map (items_in_value 0) vs)) near (items_long vs)
has_items (lists.Fixed size) c vs own near = omega (arith, pieces_long (items_in_value size) size vs (all_items size c vs own))

has_strings : (w : OffsetWidth) (vs : List PlainValue) → sum_by (λ v. length (bytes_in_value v)) vs ≤ greatest_offset w
    → HasStrings w (length vs) (validity_bytes vs) (offsets_bytes w (map (λ v. length (bytes_in_value v)) vs)) (flat_map bytes_in_value vs)
has_strings w vs near = record { bits = has_bits vs; rising = has_offsets w (λ v. length (bytes_in_value v)) vs (length (flat_map bytes_in_value vs)) near (strings_long vs) }

columns_longer : (vs : List PlainValue) (a n : ℕ) → AllByRecursion (λ count. length vs ≤ count) (map length (map (λ k. map (field_value k) vs) (range_with_len a n)))
columns_longer vs a zero = tt
columns_longer vs a (suc n) = (omega (arith, length-map vs (field_value a)), columns_longer vs (a + 1) n)

-- the buffers of a node hold its slots
pub is_laid : (form : Form) (c : FieldTree) (vs : List PlainValue) → AllByRecursion (IsOwn form c) vs → IsSmall form vs
    → HoldsSlots form (length vs) (own_chunks form vs) (map length (raws_below form c vs))
is_laid forms.Nulls c vs own small = tt
is_laid forms.Bits c vs own small = has_bools vs
is_laid (forms.Numbers number) c vs own small = has_ints (number_width number) vs
is_laid (forms.Bytes w) c vs own small = has_strings w vs small.near
is_laid (forms.Texts w) c vs own small = has_strings w vs small.near
is_laid (forms.FixedBytes w) c vs own small = has_fixed w c vs own
is_laid (forms.Lists w) c vs own small = record { bits = has_bits vs; rising = has_items w c vs own small.near }
is_laid forms.Structs c vs own small = record { bits = has_bits vs; longer = columns_longer vs 0 (width c) }

twice : (b : Bool) → ◌≡◌ {A = ℕ} (cond (not (not b)) 1 0) (cond b 1 0)
twice true = refl
twice false = refl

pub counts_agree : (vs : List PlainValue) → count_by not (map (λ v. not (is_null_value v)) vs) ≡ nulls_in vs
counts_agree [] = refl
counts_agree (v ∷ vs) =
    omega (arith, sum_by-cons (λ b. cond (not b) 1 0) (not (is_null_value v)) (map (λ v. not (is_null_value v)) vs), sum_by-cons (λ v. cond (is_null_value v) 1 0) v vs, twice (is_null_value v), counts_agree vs)

-- the bits of the bitmap are those that were packed
pub bitmap_again : (vs : List PlainValue) → bits_of (length vs) (packed (map (λ v. not (is_null_value v)) vs)) ≡ map (λ v. not (is_null_value v)) vs
bitmap_again vs =
    let bits = map (λ v. not (is_null_value v)) vs in
    let long = length-map vs (λ v. not (is_null_value v)) in
    let there = length_bits (length vs) (packed bits) in
    same_lists (bits_of (length vs) (packed bits)) bits (omega (arith, there, long))
    (λ k d h. let here : k < length vs = omega (arith, h, there) in
    get_or-map-range_with_len (bit_of (packed bits)) 0 (length vs) k k d here (omega arith)
    ∙ bitmap_bit vs k here ∙ sym (get_or-map (λ v. not (is_null_value v)) vs k null_value d here))

nulls_by : (b : Bool) (vs : List PlainValue) → nat_eq (nulls_in vs) 0 ≡ b → nulls_of (length vs) (if b then [] else packed (map (λ v. not (is_null_value v)) vs)) ≡ nulls_in vs
nulls_by true vs e = sym (eqb-true (nulls_in vs) 0 e)
nulls_by false vs e =
    let bits = map (λ v. not (is_null_value v)) vs in
    let some : 0 < nulls_in vs = nat_some (nulls_in vs) (eqb-false (nulls_in vs) 0 e) in
    let filled : 0 < length (packed bits) = omega (arith, packed_few bits, length-map vs (λ v. not (is_null_value v)), count_by-le-length is_null_value vs, some) in
    ap (λ b. if b then 0 else count_by not (bits_of (length vs) (packed bits))) (not_zero (length (packed bits)) filled)
    ∙ ap (count_by not) (bitmap_again vs) ∙ counts_agree vs
  where
    nat_some : (n : ℕ) → (n ≡ 0 → ⊥) → 0 < n
    nat_some zero h = absurd (h refl)
    nat_some (suc n) h = omega arith

-- the bitmap has as many nulls as there are
pub nulls_are : (vs : List PlainValue) → nulls_of (length vs) (validity_bytes vs) ≡ nulls_in vs
nulls_are vs = nulls_by (nat_eq (nulls_in vs) 0) vs refl

is_count : (vs : List PlainValue) → IsCount (own_node vs) (validity_bytes vs)
is_count vs = inr (ap pos (sym (nulls_are vs)))

-- the node's null count is their number
pub is_counted : (form : Form) (vs : List PlainValue) → IsCountOf form (own_node vs) (buffer (own_chunks form vs) 0)
is_counted forms.Nulls vs = tt
is_counted forms.Bits vs = is_count vs
is_counted (forms.Numbers number) vs = is_count vs
is_counted (forms.Bytes w) vs = is_count vs
is_counted (forms.Texts w) vs = is_count vs
is_counted (forms.FixedBytes w) vs = is_count vs
is_counted (forms.Lists w) vs = is_count vs
is_counted forms.Structs vs = is_count vs

-- a value of texts that is not null is a text
textual : (w : OffsetWidth) (c : FieldTree) (v : PlainValue) → IsOwn (forms.Texts w) c v → not (is_null_value v) ≡ true → IsUtf8 (bytes_in_value v)
textual w c null_value own h = cc
textual w c (bool_value b) own h = cc
textual w c (int_value b) own h = absurd own
textual w c (binary_value b) own h = absurd own
textual w c (utf8_value b) own h = own
textual w c (list_value b) own h = absurd own
textual w c (struct_value b) own h = let other = own.0 in cc

are_texts : (w : OffsetWidth) (c : FieldTree) (vs : List PlainValue) → AllByRecursion (IsOwn (forms.Texts w) c) vs → sum_by (λ v. length (bytes_in_value v)) vs ≤ greatest_offset w
    → AreTexts w (length vs) (validity_bytes vs) (offsets_bytes w (map (λ v. length (bytes_in_value v)) vs)) (flat_map bytes_in_value vs)
are_texts w c vs own near = λ j h valid.
    subst IsUtf8 (sym (read_range w bytes_in_value vs j h near)) (textual w c (value_at vs j) (in_slot (IsOwn (forms.Texts w) c) vs j h own) (sym (read_valid vs j h) ∙ valid))

-- its texts are UTF-8
pub is_text : (form : Form) (c : FieldTree) (vs : List PlainValue) → AllByRecursion (IsOwn form c) vs → IsSmall form vs
    → HoldsTexts form (length vs) (own_chunks form vs)
is_text forms.Nulls c vs own small = tt
is_text forms.Bits c vs own small = tt
is_text (forms.Numbers number) c vs own small = tt
is_text (forms.Bytes w) c vs own small = tt
is_text (forms.Texts w) c vs own small = are_texts w c vs own small.near
is_text (forms.FixedBytes w) c vs own small = tt
is_text (forms.Lists w) c vs own small = tt
is_text forms.Structs c vs own small = tt
