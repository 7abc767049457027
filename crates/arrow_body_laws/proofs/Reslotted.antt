-- The buffers of a canonical node are the stored ones of its values.
use Rattle.std.proofs.Common.{◌≡◌, ℕ, zero, suc, ◌+◌, ◌*◌, ◌-◌, ◌<◌, Bool, true, false, cond, not, List, [], ◌∷◌, length, map, take, drop, refl, ap, ◌∙◌, sym, arith, if◌then◌else◌}
use Rattle.std.specs.Prelude.{pos, ◌||◌, nat_eq, count_by}
use Rattle.std.specs.List.{flat_map}
use Rattle.std.specs.Int.{div_ceil}
use Rattle.std.proofs.lemmas.List.{get_or-map, length-map}
use Rattle.std.proofs.lemmas.List.Sums.{sum_by-cons}
use Rattle.arrow_bits.specs.Bitmap.{bit_of, bits_of}
use Rattle.arrow_bits.specs.Numbers.{int_of, int_bytes}
use Rattle.arrow_layout.specs.declared.form.NumberForm.{NumberForm}
use Rattle.arrow_layout.specs.Form.{number_width, has_sign}
use Rattle.arrow_layout.specs.ByteRanges.{AreBytes}
use Rattle.arrow_layout.specs.PlainValue.{PlainValue, null_value, bool_value, int_value, binary_value, value_at, is_null_value}
use Rattle.arrow_layout.specs.Slots.{bool_slot, fixed_slot, int_slot, is_valid_at, or_null, slots}
use Rattle.arrow_data.proofs.Shown.{at_slots}
use Rattle.arrow_layout.proofs.Widths.{slot_inside}
use Rattle.arrow_body_reader.specs.Sound.{nulls_of}
use Rattle.arrow_body_laws.specs.Packed.{packed}
use Rattle.arrow_body_laws.specs.Raws.{fixed_in, number_in, truth_in}
use Rattle.arrow_body_laws.specs.Stored.{nulls_in, number_buffer, validity_bytes}
use Rattle.arrow_body_laws.specs.Canonical.{IsSpare, IsCanonicalBools, IsCanonicalFixed, IsCanonicalValidity}
use Rattle.arrow_data.proofs.Again.{int_again_at}
use Rattle.arrow_body_laws.proofs.Joined.{no_elements, unpieced}
use Rattle.arrow_body_laws.proofs.Layouts.{bitmap_again, counts_agree}
use Rattle.arrow_body_laws.proofs.Packings.{packed_is}
use Rattle.arrow_body_laws.proofs.Slotted.{not_zero, some_bytes}
use Rattle.arrow_body_laws.proofs.MadeCanonical.{zeros_of}

-- the values are those of the slots, one by one
abbrev pub AreShown : List PlainValue → (ℕ → PlainValue) → Type 0
AreShown vs slot = (j : ℕ) → j < length vs → value_at vs j ≡ slot j

-- this holds if they are the list of the slots
pub are_shown : (vs : List PlainValue) (slot : ℕ → PlainValue) → slots (length vs) slot ≡ vs → AreShown vs slot
are_shown vs slot same = λ j h. ap (λ xs. value_at xs j) (sym same) ∙ at_slots (length vs) slot j h

-- a slot is valid exactly if its value is not null
abbrev pub AreValid : List PlainValue → List ℕ → Type 0
AreValid vs validity = (j : ℕ) → j < length vs → is_valid_at validity j ≡ not (is_null_value (value_at vs j))

valid_shown : (b : Bool) (payload x : PlainValue) → x ≡ (if b then payload else null_value) → is_null_value payload ≡ false → b ≡ not (is_null_value x)
valid_shown true payload x shown full = sym (ap (λ y. not (is_null_value y)) shown ∙ ap not full)
valid_shown false payload x shown full = sym (ap (λ y. not (is_null_value y)) shown)

pub are_valid : (vs : List PlainValue) (validity : List ℕ) (payload : ℕ → PlainValue) → ((j : ℕ) → is_null_value (payload j) ≡ false) → AreShown vs (λ j. or_null validity j (payload j))
    → AreValid vs validity
are_valid vs validity payload full shown = λ j h. valid_shown (is_valid_at validity j) (payload j) (value_at vs j) (shown j h) (full j)

-- values without a null
none_null : (vs : List PlainValue) → ((j : ℕ) → j < length vs → not (is_null_value (value_at vs j)) ≡ true) → nulls_in vs ≡ 0
none_null [] full = refl
none_null (v ∷ vs) full =
    omega (arith, sum_by-cons (λ v. cond (is_null_value v) 1 0) v vs, not_counted (is_null_value v) (full 0 (omega arith)), none_null vs (λ j h. full (suc j) (omega (arith, h))))
  where
    not_counted : (b : Bool) → not b ≡ true → ◌≡◌ {A = ℕ} (cond b 1 0) 0
    not_counted true h = cc
    not_counted false h = refl

-- no bitmap
bitmap_absent : (vs : List PlainValue) (validity : List ℕ) → length validity ≡ 0 → AreValid vs validity → validity ≡ validity_bytes vs
bitmap_absent vs validity long valid =
    let full = none_null vs (λ j h. sym (valid j h) ∙ ap (λ n. nat_eq n 0 || bit_of validity j) long) in
    no_elements validity long ∙ sym (ap (λ n. if nat_eq n 0 then [] else packed (map (λ v. not (is_null_value v)) vs)) full)

-- the bits of a bitmap that is present
bitmap_bits : (vs : List PlainValue) (validity : List ℕ) → 0 < length validity → AreValid vs validity → AreBytes validity
    → length validity ≡ div_ceil (length vs) 8 → IsSpare (length vs) validity → validity ≡ packed (map (λ v. not (is_null_value v)) vs)
bitmap_bits vs validity there valid small few spare =
    let long = length-map vs (λ v. not (is_null_value v)) in
    packed_is (map (λ v. not (is_null_value v)) vs) validity small (record {
      few = few ∙ ap (λ n. div_ceil n 8) (sym long);
      same = λ j h.
          sym (ap (λ b. b || bit_of validity j) (not_zero (length validity) there))
          ∙ valid j (omega (arith, h, long)) ∙ sym (get_or-map (λ v. not (is_null_value v)) vs j null_value false (omega (arith, h, long)));
      spare = λ j h. spare j (omega (arith, h, long));
    })

-- a bitmap with nulls
bitmap_present : (vs : List PlainValue) (validity : List ℕ) → 0 < length validity → 0 < nulls_of (length vs) validity → validity ≡ packed (map (λ v. not (is_null_value v)) vs)
    → validity ≡ validity_bytes vs
bitmap_present vs validity there some is =
    let bits = map (λ v. not (is_null_value v)) vs in
    let counted : nulls_of (length vs) validity ≡ nulls_in vs =
    ap (λ b. if b then 0 else count_by not (bits_of (length vs) validity)) (not_zero (length validity) there)
    ∙ ap (λ bytes. count_by not (bits_of (length vs) bytes)) is ∙ ap (count_by not) (bitmap_again vs) ∙ counts_agree vs in
    is ∙ sym (ap (λ b. if b then [] else packed bits) (not_zero (nulls_in vs) (omega (arith, counted, some))))

validity_by : (n : ℕ) (vs : List PlainValue) (validity : List ℕ) → length validity ≡ n → AreValid vs validity → AreBytes validity → IsCanonicalValidity (length vs) validity
    → IsSpare (length vs) validity → validity ≡ validity_bytes vs
validity_by zero vs validity long valid small canonical spare = bitmap_absent vs validity long valid
validity_by (suc n) vs validity long valid small canonical spare =
    let there : 0 < length validity = omega (arith, long) in
    bitmap_present vs validity there (canonical there).1 (bitmap_bits vs validity there valid small (canonical there).0 spare)

-- the bitmap is the stored one
pub validity_again : (vs : List PlainValue) (validity : List ℕ) → AreValid vs validity → AreBytes validity → IsCanonicalValidity (length vs) validity → IsSpare (length vs) validity
    → validity ≡ validity_bytes vs
validity_again vs validity valid small canonical spare = validity_by (length validity) vs validity refl valid small canonical spare

-- the value read from a slot, or null
pub slot_by : {X : Type 0} (of : PlainValue → X) (b : Bool) (payload x : PlainValue) (read : X) → x ≡ (if b then payload else null_value) → (b ≡ true → read ≡ of payload) → (b ≡ false → read ≡ of null_value) → read ≡ of x
slot_by of true payload x read shown full hidden = full refl ∙ sym (ap of shown)
slot_by of false payload x read shown full hidden = hidden refl ∙ sym (ap of shown)

-- truth values
pub bools_again : (vs : List PlainValue) (validity values : List ℕ) → AreShown vs (bool_slot validity values) → AreBytes values → IsCanonicalBools (length vs) validity values
    → values ≡ packed (map truth_in vs)
bools_again vs validity values shown small canonical =
    let long = length-map vs truth_in in
    packed_is (map truth_in vs) values small (record {
      few = canonical.just ∙ ap (λ n. div_ceil n 8) (sym long);
      same = λ j h. let here : j < length vs = omega (arith, h, long) in
          slot_by truth_in (is_valid_at validity j) (bool_value (bit_of values j)) (value_at vs j) (bit_of values j) (shown j here) (λ valid. refl) (λ null. canonical.zero_bits j here null)
          ∙ sym (get_or-map truth_in vs j null_value false here);
      spare = λ j h. canonical.spare j (omega (arith, h, long));
    })

-- the bytes of a slot of fixed width
part_taken : (w j : ℕ) (values : List ℕ) → take w (drop (w * j) values) ≡ take (w * j + w - w * j) (drop (w * j) values)
part_taken w j values = let wide : w ≡ w * j + w - w * j = omega arith in ap (λ n. take n (drop (w * j) values)) wide

-- numbers
pub ints_again : (number : NumberForm) (vs : List PlainValue) (validity values : List ℕ) → AreShown vs (int_slot (number_width number) (has_sign number) validity values) → AreBytes values
    → IsCanonicalFixed (length vs) (number_width number) validity values → values ≡ number_buffer (number_width number) vs
ints_again number vs validity values shown small canonical =
    let w = number_width number in
    unpieced (int_bytes w) w (map number_in vs) (pos 0) values (canonical.just ∙ ap (λ n. w * n) (sym (length-map vs number_in)))
    (λ j h. let here : j < length vs = omega (arith, h, length-map vs number_in) in
    let inside = slot_inside w j (length vs) (length values) here (omega (arith, canonical.just)) in
    slot_by (λ v. int_bytes w (number_in v)) (is_valid_at validity j) (int_value (int_of values (w * j) w (has_sign number))) (value_at vs j) (take w (drop (w * j) values)) (shown j here)
    (λ valid. sym (int_again_at w (has_sign number) values (w * j) (some_bytes number) small inside))
    (λ null. part_taken w j values ∙ canonical.zero_bytes j here null ∙ sym (zeros_of w))
    ∙ ap (int_bytes w) (sym (get_or-map number_in vs j null_value (pos 0) here)))

-- bytes of a fixed width
pub fixed_again : (w : ℕ) (vs : List PlainValue) (validity values : List ℕ) → AreShown vs (fixed_slot w validity values) → IsCanonicalFixed (length vs) w validity values → values ≡ flat_map (fixed_in w) vs
fixed_again w vs validity values shown canonical =
    unpieced (fixed_in w) w vs null_value values canonical.just
    (λ j h. slot_by (fixed_in w) (is_valid_at validity j) (binary_value (take (w * j + w - w * j) (drop (w * j) values))) (value_at vs j) (take w (drop (w * j) values)) (shown j h)
    (λ valid. part_taken w j values)
    (λ null. part_taken w j values ∙ canonical.zero_bytes j h null))
