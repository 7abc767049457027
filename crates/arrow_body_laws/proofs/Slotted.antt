-- The slots of each layout, read back.
use Rattle.std.proofs.Common.{◌≡◌, ℕ, zero, suc, ◌+◌, ◌*◌, ◌-◌, ◌<◌, ◌≤◌, Bool, true, false, cond, not, List, [], ◌∷◌, length, map, get_or, take, drop, refl, ap, ◌∙◌, sym, subst, arith, if◌then◌else◌}
use Rattle.std.specs.Prelude.{pos, ◌||◌, nat_eq}
use Rattle.std.specs.List.{AllByRecursion, flat_map, sum_by, range_with_len}
use Rattle.std.proofs.lemmas.Bool.{eqb-true}
use Rattle.std.proofs.Math.Dec.{eqb-suc-zero}
use Rattle.std.proofs.lemmas.List.{get_or-map, length-map, length-replicate, same_lists}
use Rattle.std.proofs.lemmas.List.FromFn.{get_or-map-range_with_len, length-map-range_with_len}
use Rattle.std.proofs.lemmas.List.Sums.{sum_by-cons}
use Rattle.arrow_bits.specs.Bitmap.{bit_of}
use Rattle.arrow_bits.specs.Numbers.{FitsInt, int_of}
use Rattle.arrow_types.specs.Field.{FieldTree, width}
use Rattle.arrow_layout.specs.declared.form.NumberForm.TheVariants as numbers
use Rattle.arrow_layout.specs.declared.form.NumberForm.{NumberForm}
use Rattle.arrow_types.specs.declared.data_type.BitWidth.TheVariants as widths
use Rattle.arrow_layout.specs.Form.{greatest_offset, number_width, has_sign}
use Rattle.arrow_layout.specs.PlainValue.{PlainValue, PlainValues, null_value, bool_value, int_value, binary_value, utf8_value, list_value, struct_value, no_values, more_values, values_of, value_at, is_null_value, field_value, nth_value, list_of_values}
use Rattle.arrow_layout.specs.Layout.{list_offsets}
use Rattle.arrow_layout.specs.Slots.{is_valid_at, or_null, bool_slot, int_slot, fixed_slot, binary_slot, utf8_slot, list_slot, struct_slot, slots, place_of, range_of}
use Rattle.arrow_layout.specs.declared.form.Form.TheVariants as forms
use Rattle.arrow_layout.specs.declared.form.ListForm.{ListForm}
use Rattle.arrow_layout.specs.declared.form.ListForm.TheVariants as lists
use Rattle.arrow_layout.specs.declared.form.OffsetWidth.{OffsetWidth}
use Rattle.arrow_data.proofs.Shown.{length_slots}
use Rattle.arrow_data.proofs.Lists.{values_again}
use Rattle.arrow_body_laws.specs.Packed.{packed, offsets_bytes}
use Rattle.arrow_body_laws.specs.Raws.{IsOwn, bytes_in_value, fixed_in, item_limit, items_in_value, last_item, nulls_under, number_in, raws_below, truth_in}
use Rattle.arrow_body_laws.specs.Stored.{list_chunks, nulls_in, number_buffer, validity_bytes}
use Rattle.arrow_body_laws.proofs.Bits.{packed_bit, packed_few}
use Rattle.arrow_body_laws.proofs.Pieces.{HaveWidth, cut, int_read, piece, place_read, sum_next}

-- the default is not used
pub any_default : {X : Type 0} (xs : List X) (i : ℕ) (d e : X) → i < length xs → get_or xs i d ≡ get_or xs i e
any_default [] i d e h = absurd (omega (arith, h))
any_default (x ∷ xs) zero d e h = refl
any_default (x ∷ xs) (suc i) d e h = any_default xs i d e (omega (arith, h))

-- a property of each value is one of each slot
pub in_slot : (P : PlainValue → Type 0) (vs : List PlainValue) (j : ℕ) → j < length vs → AllByRecursion P vs → P (value_at vs j)
in_slot P [] j h all = absurd (omega (arith, h))
in_slot P (v ∷ vs) zero h all = all.0
in_slot P (v ∷ vs) (suc j) h all = in_slot P vs j (omega (arith, h)) all.1

-- the slots are the values
pub slots_same : (vs : List PlainValue) (f : ℕ → PlainValue) → ((j : ℕ) → j < length vs → f j ≡ value_at vs j) → slots (length vs) f ≡ vs
slots_same vs f same =
    same_lists (slots (length vs) f) vs (length_slots (length vs) f)
    (λ k d h. let here : k < length vs = omega (arith, h, length_slots (length vs) f) in
    get_or-map-range_with_len f 0 (length vs) k k d here (omega arith) ∙ same k here ∙ any_default vs k null_value d here)

-- a bit that counts as 0 is not set
not_one : (b : Bool) → ◌≡◌ {A = ℕ} (cond b 1 0) 0 → b ≡ false
not_one true h = absurd (omega (arith, h))
not_one false h = refl

-- if no value is null, that of a slot is not
no_null : (vs : List PlainValue) (j : ℕ) → j < length vs → nulls_in vs ≡ 0 → is_null_value (value_at vs j) ≡ false
no_null [] j h e = absurd (omega (arith, h))
no_null (v ∷ vs) zero h e = not_one (is_null_value v) (omega (arith, sum_by-cons (λ v. cond (is_null_value v) 1 0) v vs, e))
no_null (v ∷ vs) (suc j) h e = no_null vs j (omega (arith, h)) (omega (arith, sum_by-cons (λ v. cond (is_null_value v) 1 0) v vs, e))

-- the bit of a slot
pub bitmap_bit : (vs : List PlainValue) (j : ℕ) → j < length vs → bit_of (packed (map (λ v. not (is_null_value v)) vs)) j ≡ not (is_null_value (value_at vs j))
bitmap_bit vs j h =
    packed_bit (map (λ v. not (is_null_value v)) vs) j (omega (arith, h, length-map vs (λ v. not (is_null_value v))))
    ∙ get_or-map (λ v. not (is_null_value v)) vs j null_value false h

pub not_zero : (n : ℕ) → 0 < n → nat_eq n 0 ≡ false
not_zero zero h = absurd (omega (arith, h))
not_zero (suc n) h = eqb-suc-zero n

valid_by : (b : Bool) (vs : List PlainValue) (j : ℕ) → j < length vs → nat_eq (nulls_in vs) 0 ≡ b
    → is_valid_at (if b then [] else packed (map (λ v. not (is_null_value v)) vs)) j ≡ not (is_null_value (value_at vs j))
valid_by true vs j h e = sym (ap not (no_null vs j h (eqb-true (nulls_in vs) 0 e)))
valid_by false vs j h e =
    let bits = map (λ v. not (is_null_value v)) vs in
    let some : 0 < length (packed bits) = omega (arith, packed_few bits, length-map vs (λ v. not (is_null_value v)), h) in
    ap (λ b. b || bit_of (packed bits) j) (not_zero (length (packed bits)) some) ∙ bitmap_bit vs j h

-- a slot is valid exactly if its value is not null
pub read_valid : (vs : List PlainValue) (j : ℕ) → j < length vs → is_valid_at (validity_bytes vs) j ≡ not (is_null_value (value_at vs j))
read_valid vs j h = valid_by (nat_eq (nulls_in vs) 0) vs j h refl

-- the choice between a value and null
chosen : (v payload : PlainValue) → (is_null_value v ≡ false → payload ≡ v) → (if not (is_null_value v) then payload else null_value) ≡ v
chosen null_value payload same = refl
chosen (bool_value b) payload same = same refl
chosen (int_value z) payload same = same refl
chosen (binary_value b) payload same = same refl
chosen (utf8_value b) payload same = same refl
chosen (list_value b) payload same = same refl
chosen (struct_value b) payload same = same refl

-- a slot is its value if the payload read from a valid slot is
pub slot_same : (vs : List PlainValue) (j : ℕ) (payload : PlainValue) → j < length vs → (is_null_value (value_at vs j) ≡ false → payload ≡ value_at vs j) → or_null (validity_bytes vs) j payload ≡ value_at vs j
slot_same vs j payload h same = ap (λ b. if b then payload else null_value) (read_valid vs j h) ∙ chosen (value_at vs j) payload same

-- nulls
null_of : (c : FieldTree) (v : PlainValue) → IsOwn forms.Nulls c v → null_value ≡ v
null_of c null_value own = refl
null_of c (bool_value b) own = cc
null_of c (int_value z) own = absurd own
null_of c (binary_value b) own = absurd own
null_of c (utf8_value b) own = absurd own
null_of c (list_value b) own = absurd own
null_of c (struct_value b) own = let other = own.0 in cc

pub read_nulls : (c : FieldTree) (vs : List PlainValue) → AllByRecursion (IsOwn forms.Nulls c) vs → slots (length vs) (λ j. null_value) ≡ vs
read_nulls c vs own = slots_same vs (λ j. null_value) (λ j h. null_of c (value_at vs j) (in_slot (IsOwn forms.Nulls c) vs j h own))

-- truth values
truth_of : (c : FieldTree) (v : PlainValue) → IsOwn forms.Bits c v → is_null_value v ≡ false → bool_value (truth_in v) ≡ v
truth_of c null_value own h = cc
truth_of c (bool_value b) own h = refl
truth_of c (int_value b) own h = absurd own
truth_of c (binary_value b) own h = absurd own
truth_of c (utf8_value b) own h = absurd own
truth_of c (list_value b) own h = absurd own
truth_of c (struct_value b) own h = let other = own.0 in cc

pub read_bools : (c : FieldTree) (vs : List PlainValue) → AllByRecursion (IsOwn forms.Bits c) vs → slots (length vs) (bool_slot (validity_bytes vs) (packed (map truth_in vs))) ≡ vs
read_bools c vs own =
    slots_same vs (bool_slot (validity_bytes vs) (packed (map truth_in vs)))
    (λ j h. slot_same vs j (bool_value (bit_of (packed (map truth_in vs)) j)) h
    (λ full. ap bool_value (packed_bit (map truth_in vs) j (omega (arith, h, length-map vs truth_in)) ∙ get_or-map truth_in vs j null_value false h)
    ∙ truth_of c (value_at vs j) (in_slot (IsOwn forms.Bits c) vs j h own) full))

-- a number has at least one byte
pub some_bytes : (number : NumberForm) → 1 ≤ number_width number
some_bytes (numbers.Int widths.Eight signed) = omega arith
some_bytes (numbers.Int widths.Sixteen signed) = omega arith
some_bytes (numbers.Int widths.ThirtyTwo signed) = omega arith
some_bytes (numbers.Int widths.SixtyFour signed) = omega arith
some_bytes numbers.Int128 = omega arith

-- numbers
pub number_of : (number : NumberForm) (c : FieldTree) (v : PlainValue) → IsOwn (forms.Numbers number) c v → is_null_value v ≡ false
    → FitsInt (number_width number) (has_sign number) (number_in v) × (int_value (number_in v) ≡ v)
number_of number c null_value own h = cc
number_of number c (bool_value b) own h = cc
number_of number c (int_value z) own h = (own, refl)
number_of number c (binary_value b) own h = absurd own
number_of number c (utf8_value b) own h = absurd own
number_of number c (list_value b) own h = absurd own
number_of number c (struct_value b) own h = let other = own.0 in cc

pub read_ints : (number : NumberForm) (c : FieldTree) (vs : List PlainValue) → AllByRecursion (IsOwn (forms.Numbers number) c) vs
    → slots (length vs) (int_slot (number_width number) (has_sign number) (validity_bytes vs) (number_buffer (number_width number) vs)) ≡ vs
read_ints number c vs own =
    let w = number_width number in
    slots_same vs (int_slot w (has_sign number) (validity_bytes vs) (number_buffer w vs))
    (λ j h. slot_same vs j (int_value (int_of (number_buffer w vs) (w * j) w (has_sign number))) h
    (λ full. let at = get_or-map number_in vs j null_value (pos 0) h in
    let known = number_of number c (value_at vs j) (in_slot (IsOwn (forms.Numbers number) c) vs j h own) full in
    let fits = subst (FitsInt w (has_sign number)) (sym at) known.0 in
    ap int_value (int_read w (has_sign number) (map number_in vs) j (some_bytes number) (omega (arith, h, length-map vs number_in)) fits ∙ at) ∙ known.1))

-- bytes of a fixed width
fixed_wide : (w : ℕ) (c : FieldTree) (v : PlainValue) → IsOwn (forms.FixedBytes w) c v → length (fixed_in w v) ≡ w
fixed_wide w c null_value own = length-replicate {A = ℕ} w 0
fixed_wide w c (bool_value b) own = length-replicate {A = ℕ} w 0
fixed_wide w c (int_value b) own = length-replicate {A = ℕ} w 0
fixed_wide w c (binary_value b) own = own
fixed_wide w c (utf8_value b) own = length-replicate {A = ℕ} w 0
fixed_wide w c (list_value b) own = length-replicate {A = ℕ} w 0
fixed_wide w c (struct_value b) own = length-replicate {A = ℕ} w 0

pub all_fixed : (w : ℕ) (c : FieldTree) (vs : List PlainValue) → AllByRecursion (IsOwn (forms.FixedBytes w) c) vs → HaveWidth (fixed_in w) w vs
all_fixed w c [] own = tt
all_fixed w c (v ∷ vs) own = (fixed_wide w c v own.0, all_fixed w c vs own.1)

fixed_of : (w : ℕ) (c : FieldTree) (v : PlainValue) → IsOwn (forms.FixedBytes w) c v → is_null_value v ≡ false → binary_value (fixed_in w v) ≡ v
fixed_of w c null_value own h = cc
fixed_of w c (bool_value b) own h = cc
fixed_of w c (int_value b) own h = absurd own
fixed_of w c (binary_value b) own h = refl
fixed_of w c (utf8_value b) own h = absurd own
fixed_of w c (list_value b) own h = absurd own
fixed_of w c (struct_value b) own h = let other = own.0 in cc

pub read_fixed : (w : ℕ) (c : FieldTree) (vs : List PlainValue) → AllByRecursion (IsOwn (forms.FixedBytes w) c) vs
    → slots (length vs) (fixed_slot w (validity_bytes vs) (flat_map (fixed_in w) vs)) ≡ vs
read_fixed w c vs own =
    let bytes = flat_map (fixed_in w) vs in
    slots_same vs (fixed_slot w (validity_bytes vs) bytes)
    (λ j h. let wide : w * j + w - w * j ≡ w = omega arith in
    slot_same vs j (binary_value (take (w * j + w - w * j) (drop (w * j) bytes))) h
    (λ full. ap (λ n. binary_value (take n (drop (w * j) bytes))) wide
    ∙ ap binary_value (piece (fixed_in w) w vs (all_fixed w c vs own) j null_value h)
    ∙ fixed_of w c (value_at vs j) (in_slot (IsOwn (forms.FixedBytes w) c) vs j h own) full))

-- ranges
pub read_range : {A : Type 0} (w : OffsetWidth) (g : PlainValue → List A) (vs : List PlainValue) (j : ℕ) → j < length vs → sum_by (λ v. length (g v)) vs ≤ greatest_offset w
    → range_of w (offsets_bytes w (map (λ v. length (g v)) vs)) (flat_map g vs) j ≡ g (value_at vs j)
read_range w g vs j h near =
    let here = place_read w (λ v. length (g v)) vs j (omega (arith, h)) near in
    let next = place_read w (λ v. length (g v)) vs (j + 1) (omega (arith, h)) near ∙ sum_next (λ v. length (g v)) vs j null_value h in
    let o = offsets_bytes w (map (λ v. length (g v)) vs) in
    let long : place_of w o (j + 1) - place_of w o j ≡ length (g (value_at vs j)) = omega (arith, here, next) in
    ap (λ n. take n (drop (place_of w o j) (flat_map g vs))) long
    ∙ ap (λ n. take (length (g (value_at vs j))) (drop n (flat_map g vs))) here
    ∙ cut g vs j null_value h

-- byte strings
string_of : (w : OffsetWidth) (c : FieldTree) (v : PlainValue) → IsOwn (forms.Bytes w) c v → is_null_value v ≡ false → binary_value (bytes_in_value v) ≡ v
string_of w c null_value own h = cc
string_of w c (bool_value b) own h = cc
string_of w c (int_value b) own h = absurd own
string_of w c (binary_value b) own h = refl
string_of w c (utf8_value b) own h = absurd own
string_of w c (list_value b) own h = absurd own
string_of w c (struct_value b) own h = let other = own.0 in cc

pub read_strings : (w : OffsetWidth) (c : FieldTree) (vs : List PlainValue) → AllByRecursion (IsOwn (forms.Bytes w) c) vs → sum_by (λ v. length (bytes_in_value v)) vs ≤ greatest_offset w
    → slots (length vs) (binary_slot w (validity_bytes vs) (offsets_bytes w (map (λ v. length (bytes_in_value v)) vs)) (flat_map bytes_in_value vs)) ≡ vs
read_strings w c vs own near =
    let o = offsets_bytes w (map (λ v. length (bytes_in_value v)) vs) in
    slots_same vs (binary_slot w (validity_bytes vs) o (flat_map bytes_in_value vs))
    (λ j h. slot_same vs j (binary_value (range_of w o (flat_map bytes_in_value vs) j)) h
    (λ full. ap binary_value (read_range w bytes_in_value vs j h near) ∙ string_of w c (value_at vs j) (in_slot (IsOwn (forms.Bytes w) c) vs j h own) full))

-- texts
text_of : (w : OffsetWidth) (c : FieldTree) (v : PlainValue) → IsOwn (forms.Texts w) c v → is_null_value v ≡ false → utf8_value (bytes_in_value v) ≡ v
text_of w c null_value own h = cc
text_of w c (bool_value b) own h = cc
text_of w c (int_value b) own h = absurd own
text_of w c (binary_value b) own h = absurd own
text_of w c (utf8_value b) own h = refl
text_of w c (list_value b) own h = absurd own
text_of w c (struct_value b) own h = let other = own.0 in cc

pub read_texts : (w : OffsetWidth) (c : FieldTree) (vs : List PlainValue) → AllByRecursion (IsOwn (forms.Texts w) c) vs → sum_by (λ v. length (bytes_in_value v)) vs ≤ greatest_offset w
    → slots (length vs) (utf8_slot w (validity_bytes vs) (offsets_bytes w (map (λ v. length (bytes_in_value v)) vs)) (flat_map bytes_in_value vs)) ≡ vs
read_texts w c vs own near =
    let o = offsets_bytes w (map (λ v. length (bytes_in_value v)) vs) in
    slots_same vs (utf8_slot w (validity_bytes vs) o (flat_map bytes_in_value vs))
    (λ j h. slot_same vs j (utf8_value (range_of w o (flat_map bytes_in_value vs) j)) h
    (λ full. ap utf8_value (read_range w bytes_in_value vs j h near) ∙ text_of w c (value_at vs j) (in_slot (IsOwn (forms.Texts w) c) vs j h own) full))

-- lists
list_of : (n : ℕ) (w : ListForm) (c : FieldTree) (v : PlainValue) → IsOwn (forms.Lists w) c v → is_null_value v ≡ false → list_value (values_of (items_in_value n v)) ≡ v
list_of n w c null_value own h = cc
list_of n w c (bool_value b) own h = cc
list_of n w c (int_value b) own h = absurd own
list_of n w c (binary_value b) own h = absurd own
list_of n w c (utf8_value b) own h = absurd own
list_of n w c (list_value b) own h = ap list_value (values_again b)
list_of n w c (struct_value b) own h = let other = own.0 in cc

-- the items of a value of fixed-size lists, nulls in place of them under a null
item_wide : (size : ℕ) (c : FieldTree) (v : PlainValue) → IsOwn (forms.Lists (lists.Fixed size)) c v → length (items_in_value size v) ≡ size
item_wide size c null_value own = length-replicate size null_value
item_wide size c (bool_value b) own = length-replicate size null_value
item_wide size c (int_value b) own = length-replicate size null_value
item_wide size c (binary_value b) own = length-replicate size null_value
item_wide size c (utf8_value b) own = length-replicate size null_value
item_wide size c (list_value b) own = own
item_wide size c (struct_value b) own = length-replicate size null_value

pub all_items : (size : ℕ) (c : FieldTree) (vs : List PlainValue) → AllByRecursion (IsOwn (forms.Lists (lists.Fixed size)) c) vs → HaveWidth (items_in_value size) size vs
all_items size c [] own = tt
all_items size c (v ∷ vs) own = (item_wide size c v own.0, all_items size c vs own.1)

pub read_lists : (w : ListForm) (c : FieldTree) (vs : List PlainValue) → AllByRecursion (IsOwn (forms.Lists w) c) vs → last_item w vs ≤ item_limit w
    → slots (length vs) (list_slot w (validity_bytes vs) (list_offsets w (validity_bytes vs ∷ list_chunks w vs)) (flat_map (items_in_value (nulls_under w)) vs)) ≡ vs
read_lists (lists.Offsets w) c vs own near =
    let o = offsets_bytes w (map (λ v. length (items_in_value 0 v)) vs) in
    let child = flat_map (items_in_value 0) vs in
    slots_same vs (list_slot (lists.Offsets w) (validity_bytes vs) o child)
    (λ j h. slot_same vs j (list_value (values_of (range_of w o child j))) h
    (λ full. ap (λ items. list_value (values_of items)) (read_range w (items_in_value 0) vs j h near) ∙ list_of 0 (lists.Offsets w) c (value_at vs j) (in_slot (IsOwn (forms.Lists (lists.Offsets w)) c) vs j h own) full))
read_lists (lists.Fixed size) c vs own near =
    let child = flat_map (items_in_value size) vs in
    slots_same vs (list_slot (lists.Fixed size) (validity_bytes vs) [] child)
    (λ j h. let wide : size * (j + 1) - size * j ≡ size = omega arith in
    slot_same vs j (list_value (values_of (take (size * (j + 1) - size * j) (drop (size * j) child)))) h
    (λ full. ap (λ n. list_value (values_of (take n (drop (size * j) child)))) wide
    ∙ ap (λ items. list_value (values_of items)) (piece (items_in_value size) size vs (all_items size c vs own) j null_value h)
    ∙ list_of size (lists.Fixed size) c (value_at vs j) (in_slot (IsOwn (forms.Lists (lists.Fixed size)) c) vs j h own) full))

-- structs
pub nth_same : (values : PlainValues) (k : ℕ) → nth_value k values ≡ get_or (list_of_values values) k null_value
nth_same no_values k = refl
nth_same (more_values v others) zero = refl
nth_same (more_values v others) (suc k) = nth_same others k

-- the parts of one slot are those of its value
parts_again : (n : ℕ) (b : PlainValues) → length (list_of_values b) ≡ n → struct_value (values_of (map (λ k. nth_value k b) (range_with_len 0 n))) ≡ struct_value b
parts_again n b own =
    let parts = map (λ k. nth_value k b) (range_with_len 0 n) in
    let long : length parts ≡ n = length-map-range_with_len (λ k. nth_value k b) 0 n in
    let same : parts ≡ list_of_values b =
    same_lists parts (list_of_values b) (omega (arith, long, own))
    (λ k d at. let here : k < n = omega (arith, at, long) in
    get_or-map-range_with_len (λ k. nth_value k b) 0 n k k d here (omega arith) ∙ nth_same b k ∙ any_default (list_of_values b) k null_value d (omega (arith, here, own))) in
    ap (λ vs. struct_value (values_of vs)) same ∙ ap struct_value (values_again b)

struct_of : (c : FieldTree) (v : PlainValue) → IsOwn forms.Structs c v → is_null_value v ≡ false → struct_value (values_of (map (λ k. field_value k v) (range_with_len 0 (width c)))) ≡ v
struct_of c null_value own h = cc
struct_of c (bool_value b) own h = cc
struct_of c (int_value b) own h = absurd own
struct_of c (binary_value b) own h = absurd own
struct_of c (utf8_value b) own h = absurd own
struct_of c (list_value b) own h = absurd own
struct_of c (struct_value b) own h = parts_again (width c) b own.1

row_same : (vs : List PlainValue) (j a n : ℕ) → j < length vs
    → map (λ values. value_at values j) (map (λ k. map (field_value k) vs) (range_with_len a n)) ≡ map (λ k. field_value k (value_at vs j)) (range_with_len a n)
row_same vs j a zero h = refl
row_same vs j a (suc n) h = λ i. get_or-map (field_value a) vs j null_value null_value h i ∷ row_same vs j (a + 1) n h i

pub read_structs : (c : FieldTree) (vs : List PlainValue) → AllByRecursion (IsOwn forms.Structs c) vs
    → slots (length vs) (struct_slot (validity_bytes vs) (raws_below forms.Structs c vs)) ≡ vs
read_structs c vs own =
    slots_same vs (struct_slot (validity_bytes vs) (raws_below forms.Structs c vs))
    (λ j h. slot_same vs j (struct_value (values_of (map (λ values. value_at values j) (raws_below forms.Structs c vs)))) h
    (λ full. ap (λ vs. struct_value (values_of vs)) (row_same vs j 0 (width c) h) ∙ struct_of c (value_at vs j) (in_slot (IsOwn forms.Structs c) vs j h own) full))
