-- Numbers copied together with the bytes under nulls, which are then cleared.
use Rattle.std.proofs.Common.{◌≡◌, ℕ, zero, suc, ◌+◌, ◌-◌, ◌*◌, ◌<◌, ◌≤◌, Bool, true, false, List, [], ◌∷◌, ◌++◌, length, map, take, drop, get_or, refl, ap, ◌∙◌, sym, subst, arith, append_assoc, append-nil, length-append, not}
use Rattle.std.specs.Prelude.{slice_range, replicate}
use Rattle.std.specs.List.{flat_map}
use Rattle.std.proofs.Math.Nat.{mul-suc}
use Rattle.std.proofs.Math.Seq.{take-add, drop-append_seam, take-append_seam}
use Rattle.std.proofs.lemmas.Grind.{flat_map-append}
use Rattle.std.proofs.lemmas.List.{take_all, drop-drop, length-take, length-drop, map-append, length-replicate}
use Rattle.std.proofs.lemmas.Nat.{mul-le}
use Rattle.arrow_bits.specs.Bitmap.{bit_of, IsFirstUnset}
use Rattle.arrow_bits.specs.Numbers.{IsIntWidth, int_bytes, int_of, number_bytes}
use Rattle.arrow_layout.specs.declared.form.NumberForm.{NumberForm}
use Rattle.arrow_data.specs.Column.{Column, values_from}
use Rattle.arrow_layout.specs.Form.{number_width}
use Rattle.arrow_layout.specs.Layout.{HasFixed}
use Rattle.arrow_layout.specs.PlainValue.{PlainValue, int_value, is_null_value, null_value, value_at}
use Rattle.arrow_layout.specs.Slots.{int_slot, is_valid_at}
use Rattle.arrow_data.specs.View.{AreRaw}
use Rattle.arrow_data.proofs.Again.{int_again_at}
use Rattle.arrow_data.proofs.Fitting.{some_bytes}
use Rattle.arrow_data.proofs.FullSlots.{full_value, joined_range}
use Rattle.arrow_data.proofs.Sameness.{length-values_from}
use Rattle.arrow_layout.proofs.Widths.{slot_inside}
use Rattle.arrow_body_laws.proofs.Layouts.{ints_long}
use Rattle.arrow_body_laws.specs.Raws.{number_in}
use Rattle.arrow_body_laws.specs.Stored.{number_buffer}
use Rattle.arrow_body_slots.proofs.Ranges.{from_both, none_from, null_next}
use Rattle.arrow_body_slots.proofs.Running.{pieces_written}
use Rattle.arrow_body_slots.specs.Marks.{AreNumbered, HasNumbers}
use Rattle.arrow_body_slots.specs.Part.{IsWritten}
use Rattle.arrow_body_slots.specs.declared.masked.NullMasked.{NullMasked}
use Rattle.arrow_body_slots.specs.declared.part.BufferKind.{BufferKind}
use Rattle.arrow_body_slots.specs.declared.part.BufferKind.TheVariants.{Numbers}
use Rattle.arrow_body_slots.specs.declared.writing.Writing.{Writing}

-- the byte offset of the next number
pub next_place : (w j : ℕ) → w * (j + 1) ≡ w * j + w
next_place w j = omega (arith, mul-suc w j)

-- the numbers of an array are in its buffer
numbers_held : (c : Column) (w : ℕ) (signed : Bool) (validity values : List ℕ) → IsIntWidth w signed → HasFixed (length c.raw) w validity values → AreRaw c (int_slot w signed validity values)
    → ((k : ℕ) → get_or values k 0 < 256) → AreNumbered w c.raw values
numbers_held c w signed validity values whole has raw small = record {
  long = has.long;
  same = λ j h full.
      let shown = full_value (is_valid_at validity j) (int_value (int_of values (w * j) w signed)) (value_at c.raw j) (raw j h) full in
      let wide : w ≡ w * (j + 1) - w * j = omega (arith, next_place w j) in
      ap (λ v. int_bytes w (number_in v)) shown
      ∙ int_again_at w signed values (w * j) (some_bytes w signed whole) small (slot_inside w j (length c.raw) (length values) h has.long)
      ∙ ap (λ n. take n (drop (w * j) values)) wide;
}

-- so they are in the bytes of the requested width
pub numbers_found : (c : Column) (own w : ℕ) (signed : Bool) (validity values found : List ℕ) → (own ≡ w) × (found ≡ values) × ((k : ℕ) → get_or values k 0 < 256)
    → IsIntWidth own signed → HasFixed (length c.raw) own validity values → AreRaw c (int_slot own signed validity values) → AreNumbered w c.raw found
numbers_found c own w signed validity values found same whole has raw =
    subst (λ k. AreNumbered k c.raw found) same.0 (subst (AreNumbered own c.raw) (sym same.1) (numbers_held c own signed validity values whole has raw same.2))

-- the bytes of numbers, one after another
piece_by_piece : (w : ℕ) (vs : List PlainValue) → flat_map (λ v. int_bytes w (number_in v)) vs ≡ number_buffer w vs
piece_by_piece w [] = refl
piece_by_piece w (v ∷ vs) = ap (λ b. int_bytes w (number_in v) ++ b) (piece_by_piece w vs)

-- if no slot of a range is null, its numbers are those in the buffer
full_numbers : (w : ℕ) (raw : List PlainValue) (values : List ℕ) (start stop : ℕ) → AreNumbered w raw values → start ≤ stop → stop ≤ length raw
    → ((j : ℕ) → start ≤ j → j < stop → is_null_value (value_at raw j) ≡ false) → slice_range values (w * start) (w * stop) ≡ number_buffer w (values_from raw start stop)
full_numbers w raw values start stop are order inside full =
    joined_range (λ v. int_bytes w (number_in v)) raw values (λ j. w * j) start stop order inside
    (λ j low high. (omega (arith, next_place w j), are.same j (omega (arith, high, inside)) (full j low high)))
    ∙ piece_by_piece w (values_from raw start stop)

-- numbers, and others after them
numbers_both : (w : ℕ) (vs ws : List PlainValue) → number_buffer w (vs ++ ws) ≡ number_buffer w vs ++ number_buffer w ws
numbers_both w vs ws = ap (flat_map (int_bytes w)) (map-append number_in vs ws) ∙ flat_map-append (int_bytes w) (map number_in vs) (map number_in ws)

-- the bytes of 0
zero_bytes : (w : ℕ) → number_bytes w 0 ≡ replicate w 0
zero_bytes zero = refl
zero_bytes (suc w) = ap (λ b. 0 ∷ b) (zero_bytes w)

null_number : (w : ℕ) → number_buffer w (null_value ∷ []) ≡ replicate w 0
null_number w = append-nil (number_bytes w 0) ∙ zero_bytes w

-- a range of bytes, and the one that follows it
part_both : (xs : List ℕ) (a b c : ℕ) → a ≤ b → b ≤ c → slice_range xs a c ≡ slice_range xs a b ++ slice_range xs b c
part_both xs a b c low high =
    let count : c - a ≡ (b - a) + (c - b) = omega (arith, low, high) in
    let place : a + (b - a) ≡ b = omega (arith, low) in
    ap (λ n. take n (drop a xs)) count ∙ take-add (b - a) (c - b) (drop a xs)
    ∙ ap (λ others. slice_range xs a b ++ take (c - b) others) (drop-drop (b - a) a xs ∙ ap (λ n. drop n xs) place)

no_part : (xs : List ℕ) (a : ℕ) → slice_range xs a a ≡ []
no_part xs a = let none : a - a ≡ 0 = omega arith in ap (λ n. take n (drop a xs)) none

-- byte offsets rise with slot indices
rise : (w i j : ℕ) → i ≤ j → w * i ≤ w * j
rise w i j h = mul-le w i w j (omega arith) h

-- The numbers of the slots up to one, followed by the bytes of the others, unchanged.
abbrev pub ClearedTo : NullMasked → List PlainValue → ℕ → ℕ → ℕ → List ℕ
ClearedTo n raw start stop i = number_buffer n.width (values_from raw start i) ++ slice_range n.values.now (n.width * i) (n.width * stop)

-- nothing is cleared yet
pub cleared_first : (n : NullMasked) (raw : List PlainValue) (start stop : ℕ) → slice_range n.values.now (n.width * start) (n.width * stop) ≡ ClearedTo n raw start stop start
cleared_first n raw start stop =
    ap (λ vs. number_buffer n.width vs ++ slice_range n.values.now (n.width * start) (n.width * stop)) (sym (none_from raw start))

-- up to the first null nothing has to be cleared
pub cleared_on : (n : NullMasked) (raw : List PlainValue) (start stop i next : ℕ) → HasNumbers n raw → start ≤ i → stop ≤ length raw → IsFirstUnset n.bits.now i stop next
    → ClearedTo n raw start stop i ≡ ClearedTo n raw start stop next
cleared_on n raw start stop i next has low inside first =
    let w = n.width in
    let values = n.values.now in
    let full = λ (j : ℕ) (from : i ≤ j) (h : j < next). not_false (is_null_value (value_at raw j)) (has.marks.same j (omega (arith, h, first.high, inside)) ∙ first.set j from h) in
    ap (λ bytes. number_buffer w (values_from raw start i) ++ bytes) (part_both values (w * i) (w * next) (w * stop) (rise w i next first.low) (rise w next stop first.high))
    ∙ sym (append_assoc (number_buffer w (values_from raw start i)) (slice_range values (w * i) (w * next)) (slice_range values (w * next) (w * stop)))
    ∙ ap (λ bytes. bytes ++ slice_range values (w * next) (w * stop))
    (ap (λ bytes. number_buffer w (values_from raw start i) ++ bytes) (full_numbers w raw values i next has.numbers first.low (omega (arith, first.high, inside)) full)
    ∙ sym (numbers_both w (values_from raw start i) (values_from raw i next)) ∙ ap (number_buffer w) (sym (from_both raw start i next low first.low)))
  where
    not_false : (b : Bool) → not b ≡ true → b ≡ false
    not_false true e = sym e
    not_false false e = refl

-- some bytes that follow the first ones are replaced by others
replaced : (front old rest new : List ℕ) (at w : ℕ) → length front ≡ at → length old ≡ w → take at (front ++ (old ++ rest)) ++ (new ++ drop (at + w) (front ++ (old ++ rest))) ≡ front ++ (new ++ rest)
replaced front old rest new at w here wide =
    let first : take at (front ++ (old ++ rest)) ≡ front = ap (λ n. take n (front ++ (old ++ rest))) (sym here) ∙ take-append_seam front (old ++ rest) in
    let long : at + w ≡ length (front ++ old) = omega (arith, length-append front old, here, wide) in
    let after : drop (at + w) (front ++ (old ++ rest)) ≡ rest =
    (λ i. drop (long i) (sym (append_assoc front old rest) i)) ∙ drop-append_seam (front ++ old) rest in
    λ i. first i ++ (new ++ after i)

-- a null is cleared
pub cleared_more : (n : NullMasked) (raw : List PlainValue) (out : List ℕ) (start stop i : ℕ) → HasNumbers n raw → start ≤ i → i < stop → stop ≤ length raw → bit_of n.bits.now i ≡ false
    → out ≡ ClearedTo n raw start stop i
    → take (n.width * (i - start)) out ++ (replicate n.width 0 ++ drop (n.width * (i - start) + n.width) out) ≡ ClearedTo n raw start stop (i + 1)
cleared_more n raw out start stop i has low high inside unset is =
    let w = n.width in
    let values = n.values.now in
    let done = number_buffer w (values_from raw start i) in
    let own = slice_range values (w * i) (w * (i + 1)) in
    let rest = slice_range values (w * (i + 1)) (w * stop) in
    let null : is_null_value (value_at raw i) ≡ true = is_true (is_null_value (value_at raw i)) (has.marks.same i (omega (arith, high, inside)) ∙ unset) in
    let parts : out ≡ done ++ (own ++ rest) =
    is ∙ ap (λ bytes. done ++ bytes) (part_both values (w * i) (w * (i + 1)) (w * stop) (omega (arith, next_place w i)) (rise w (i + 1) stop (omega (arith, high)))) in
    let long : length done ≡ w * (i - start) =
    ints_long w (values_from raw start i) ∙ ap (λ m. w * m) (length-values_from raw start i (omega (arith, high, inside))) in
    let within : w * (i + 1) ≤ length values = omega (arith, has.numbers.long, rise w (i + 1) (length raw) (omega (arith, high, inside))) in
    let wide : length own ≡ w = omega (arith, length-take (w * (i + 1) - w * i) (drop (w * i) values), length-drop (w * i) values, within, next_place w i) in
    let place = w * (i - start) in
    ap (λ bytes. take place bytes ++ (replicate w 0 ++ drop (place + w) bytes)) parts
    ∙ replaced done own rest (replicate w 0) place w long wide
    ∙ sym (append_assoc done (replicate w 0) rest)
    ∙ ap (λ bytes. bytes ++ rest) (ap (λ bytes. done ++ bytes) (sym (null_number w)) ∙ sym (numbers_both w (values_from raw start i) (null_value ∷ []))
    ∙ ap (number_buffer w) (null_next raw start i low (omega (arith, high, inside)) null))
  where
    is_true : (b : Bool) → not b ≡ false → b ≡ true
    is_true true e = refl
    is_true false e = sym e

-- the last bytes, which follow all others
pub last_part : (all front back : List ℕ) (at : ℕ) → all ≡ front ++ back → at ≡ length front → take (length all - at) (drop at all) ≡ back
last_part all front back at is here =
    (λ i. take (length (is i) - here i) (drop (here i) (is i)))
    ∙ ap (take (length (front ++ back) - length front)) (drop-append_seam front back)
    ∙ take_all (length (front ++ back) - length front) back (omega (arith, length-append front back))

-- there are as many bytes as before
pub as_long : (out new : List ℕ) (place w : ℕ) → place + w ≤ length out → new ≡ take place out ++ (replicate w 0 ++ drop (place + w) out) → length new ≡ length out
as_long out new place w inside is =
    ap length is
    ∙ omega (arith, length-append (take place out) (replicate w 0 ++ drop (place + w) out), length-append (replicate w 0) (drop (place + w) out), length-take place out, length-drop (place + w) out, length-replicate {A = ℕ} w 0, inside)

-- all nulls are cleared
pub cleared_all : (n : NullMasked) (raw : List PlainValue) (out : List ℕ) (start stop i : ℕ) → i ≡ stop → out ≡ ClearedTo n raw start stop i → out ≡ number_buffer n.width (values_from raw start stop)
cleared_all n raw out start stop i end is =
    is ∙ ap (λ k. ClearedTo n raw start stop k) end
    ∙ ap (λ bytes. number_buffer n.width (values_from raw start stop) ++ bytes) (no_part n.values.now (n.width * stop))
    ∙ append-nil (number_buffer n.width (values_from raw start stop))

-- the buffer has room for each number in it
pub room_for : (w i start stop long : ℕ) → start ≤ i → i < stop → w * (stop - start) ≤ long → w * (i - start) + w ≤ long
room_for w i start stop long low high room =
    omega (arith, next_place w (i - start), rise w (i - start + 1) (stop - start) (omega (arith, low, high)), room)

-- the numbers of slots are added to their buffer
pub numbers_written : (part : BufferKind) (number : NumberForm) (old new : Writing) (n : NullMasked) (raw : List PlainValue) (start stop : ℕ) → part ≡ Numbers number → n.width ≡ number_width number
    → new.out.items ≡ old.out.items ++ number_buffer n.width (values_from raw start stop)
    → (before : List ℕ) (vs : List PlainValue) → IsWritten part before vs old → IsWritten part before (vs ++ values_from raw start stop) new
numbers_written part number old new n raw start stop is width more before vs =
    subst (λ p. IsWritten p before vs old → IsWritten p before (vs ++ values_from raw start stop) new) (sym is)
    (pieces_written (Numbers number) old new (number_buffer n.width (values_from raw start stop)) (values_from raw start stop) (ap (λ w. number_buffer w (values_from raw start stop)) width) more before vs)
