-- Offsets that are copied from the array, each increased by the same amount.
use Rattle.std.proofs.Common.{◌≡◌, ℕ, zero, suc, ◌+◌, ◌-◌, ◌*◌, ◌%◌, ◌^◌, ◌<◌, ◌≤◌, Bool, true, false, List, [], ◌∷◌, ◌++◌, length, map, take, drop, get_or, refl, ap, ◌∙◌, sym, subst, arith, append_assoc, append-nil}
use Rattle.std.specs.Prelude.{slice_range, if◌then◌else◌}
use Rattle.std.specs.List.{flat_map, sum_by}
use Rattle.std.proofs.Math.Nat.{mul-suc}
use Rattle.std.proofs.lemmas.List.{length-take, length-drop}
use Rattle.std.proofs.lemmas.List.Sums.{sum_by-append}
use Rattle.std.proofs.lemmas.List.FromFn.{get_or-map-range_with_len, length-map-range_with_len}
use Rattle.std.proofs.lemmas.Nat.{mul-le}
use Rattle.arrow_bits.specs.Numbers.{number_at, number_bytes}
use Rattle.arrow_bits.specs.Offsets.{plain_list}
use Rattle.arrow_bits.proofs.Places.{number_in_part}
use Rattle.arrow_bits.proofs.Rising.{numbers_from_offsets, offsets_inside}
use Rattle.arrow_data.specs.Column.{values_from}
use Rattle.arrow_layout.specs.Form.{greatest_offset, offset_bytes}
use Rattle.arrow_layout.specs.PlainValue.{PlainValue, value_at}
use Rattle.arrow_layout.specs.Slots.{HasOffsets, is_valid_at, place_of}
use Rattle.arrow_layout.specs.declared.form.OffsetWidth.{OffsetWidth}
use Rattle.arrow_layout.specs.declared.form.OffsetWidth.TheVariants.{Small, Large}
use Rattle.arrow_data.proofs.FullSlots.{joined_range, places_rise}
use Rattle.arrow_body_laws.specs.Packed.{offsets_bytes}
use Rattle.arrow_body_laws.specs.Raws.{bytes_in_value, items_in_value}
use Rattle.arrow_body_slots.proofs.Ranges.{from_next, none_from}
use Rattle.arrow_body_slots.proofs.OneMore.{offsets_more, sum_more}
use Rattle.arrow_body_slots.specs.Offsets.{AreBetween, AreHeld, AreSpansOf}
use Rattle.arrow_body_slots.specs.Part.{AreOffsetsTo, IsWritten}
use Rattle.arrow_body_slots.specs.Runs.{AreOffsetsOf, AreSpansIn, IsPiece, IsThere}
use Rattle.arrow_body_slots.specs.Spans.{AreSpans, PutsMoved, moved, place_in}
use Rattle.arrow_body_slots.specs.declared.offsets.Offsets.{Offsets}
use Rattle.arrow_body_slots.specs.declared.part.BufferKind.{BufferKind}
use Rattle.arrow_body_slots.specs.declared.part.BufferKind.TheVariants.{Validity, Truths, Numbers, StringOffsets, ListOffsets, Strings, FixedBytes}
use Rattle.arrow_body_slots.specs.declared.pieces.SlotRun.{SlotRun}
use Rattle.arrow_body_slots.specs.declared.pieces.SlotRun.TheVariants as pieces
use Rattle.arrow_body_slots.specs.declared.spans.OffsetRun.{OffsetRun}
use Rattle.arrow_body_slots.specs.declared.writing.Writing.{Writing}

-- offsets advance by the lengths of the slots
reach_first : (s : OffsetRun) (long : PlainValue → ℕ) (raw : List PlainValue) (n : ℕ) → AreSpans s long raw → s.start + n ≤ s.stop
    → place_in s (s.start + n) ≡ place_in s s.start + sum_by long (values_from raw s.start (s.start + n))
reach_first s long raw zero are inside =
    let here : s.start + 0 ≡ s.start = omega arith in
    omega (arith, ap (place_in s) here, ap (λ k. sum_by long (values_from raw s.start k)) here, ap (sum_by long) (none_from raw s.start))
reach_first s long raw (suc n) are inside =
    let i = s.start + n in
    let next : s.start + suc n ≡ i + 1 = omega arith in
    omega (
      arith,
      ap (place_in s) next,
      ap (λ k. sum_by long (values_from raw s.start k)) next,
      are.same i (omega arith) (omega (arith, inside)),
      reach_first s long raw n are (omega (arith, inside)),
      ap (sum_by long) (from_next raw s.start i (omega arith) (omega (arith, inside, are.inside))),
      sum_more long (values_from raw s.start i) (value_at raw i),
    )

pub reach : (s : OffsetRun) (long : PlainValue → ℕ) (raw : List PlainValue) → AreSpans s long raw → place_in s s.stop ≡ place_in s s.start + sum_by long (values_from raw s.start s.stop)
reach s long raw are =
    let end : s.start + (s.stop - s.start) ≡ s.stop = omega (arith, are.there.order) in
    subst (λ k. place_in s k ≡ place_in s s.start + sum_by long (values_from raw s.start k)) end (reach_first s long raw (s.stop - s.start) are (omega (arith, are.there.order)))

-- adding to a number adds to its remainder if the width can represent the sum
on_by : (width : OffsetWidth) (p f by : ℕ) → (p + by) % 2 ^ (8 * offset_bytes width) + f ≤ greatest_offset width
    → (p + f + by) % 2 ^ (8 * offset_bytes width) ≡ (p + by) % 2 ^ (8 * offset_bytes width) + f
on_by Small p f by near = omega (arith, near)
on_by Large p f by near = omega (arith, near)

-- a number that the width can represent is its own remainder
represented : (width : OffsetWidth) (n : ℕ) → n ≤ greatest_offset width → n % 2 ^ (8 * offset_bytes width) ≡ n
represented Small n near = omega (arith, near)
represented Large n near = omega (arith, near)

-- a product with a sum
mul_parts : (w a b c : ℕ) → c ≡ a + b → w * c ≡ w * a + w * b
mul_parts w a zero c e = let same : c ≡ a = omega (arith, e) in omega (arith, ap (λ k. w * k) same)
mul_parts w a (suc b) c e =
    let next : c ≡ suc (a + b) = omega (arith, e) in
    omega (arith, ap (λ k. w * k) next, mul-suc w (a + b), mul-suc w b, mul_parts w a b (a + b) refl)

-- the number of an offset after the first, among the copied ones
copied : (s : OffsetRun) (n : ℕ) → s.start + suc n ≤ s.stop
    → number_at (slice_range s.offsets.now (offset_bytes s.width * (s.start + 1)) (offset_bytes s.width * (s.stop + 1))) (offset_bytes s.width * n) (offset_bytes s.width) ≡ place_in s (s.start + n + 1)
copied s n inside =
    let w = offset_bytes s.width in
    let count : w * (s.stop + 1) ≡ w * (s.start + 1) + w * (s.stop - s.start) = mul_parts w (s.start + 1) (s.stop - s.start) (s.stop + 1) (omega (arith, inside)) in
    let room : w * n + w ≤ w * (s.stop + 1) - w * (s.start + 1) = omega (arith, count, mul-suc w n, mul-le w (suc n) w (s.stop - s.start) (omega arith) (omega (arith, inside))) in
    let place : w * (s.start + 1) + w * n ≡ w * (s.start + n + 1) = sym (mul_parts w (s.start + 1) n (s.start + n + 1) (omega arith)) in
    number_in_part s.offsets.now (w * (s.start + 1)) (w * (s.stop + 1) - w * (s.start + 1)) (w * n) w room ∙ ap (λ k. number_at s.offsets.now k w) place

-- the offsets of the first slots are appended
added_first : (s : OffsetRun) (long : PlainValue → ℕ) (raw : List PlainValue) (old : Writing) (by n : ℕ) (before : List ℕ) (vs : List PlainValue) → AreSpans s long raw → s.start + n ≤ s.stop
    → (place_in s s.start + by) % 2 ^ (8 * offset_bytes s.width) ≡ old.end % 2 ^ (8 * offset_bytes s.width) → AreOffsetsTo s.width long before vs old
    → sum_by long (vs ++ values_from raw s.start (s.start + n)) ≤ greatest_offset s.width
    → (old.out.items ++ moved (offset_bytes s.width) by n (slice_range s.offsets.now (offset_bytes s.width * (s.start + 1)) (offset_bytes s.width * (s.stop + 1))) ≡ before ++ offsets_bytes s.width (map long (vs ++ values_from raw s.start (s.start + n))))
    × ((place_in s (s.start + n) + by) % 2 ^ (8 * offset_bytes s.width) ≡ sum_by long (vs ++ values_from raw s.start (s.start + n)))
added_first s long raw old by zero before vs are inside first so_far near =
    let here : s.start + 0 ≡ s.start = omega arith in
    let none : vs ++ values_from raw s.start (s.start + 0) ≡ vs = ap (λ k. vs ++ values_from raw s.start k) here ∙ ap (λ ws. vs ++ ws) (none_from raw s.start) ∙ append-nil vs in
    let past = so_far (subst (λ ws. sum_by long ws ≤ greatest_offset s.width) none near) in (
      append-nil old.out.items ∙ past.0 ∙ ap (λ ws. before ++ offsets_bytes s.width (map long ws)) (sym none),
      ap (λ k. (place_in s k + by) % 2 ^ (8 * offset_bytes s.width)) here ∙ first ∙ ap (λ k. k % 2 ^ (8 * offset_bytes s.width)) past.1
          ∙ represented s.width (sum_by long vs) (subst (λ ws. sum_by long ws ≤ greatest_offset s.width) none near) ∙ ap (sum_by long) (sym none),
    )
added_first s long raw old by (suc n) before vs are inside first so_far near =
    let w = offset_bytes s.width in
    let top = 2 ^ (8 * w) in
    let i = s.start + n in
    let part = slice_range s.offsets.now (w * (s.start + 1)) (w * (s.stop + 1)) in
    let all = vs ++ values_from raw s.start i in
    let next : s.start + suc n ≡ i + 1 = omega arith in
    let values : vs ++ values_from raw s.start (s.start + suc n) ≡ all ++ value_at raw i ∷ [] =
    ap (λ k. vs ++ values_from raw s.start k) next ∙ ap (λ ws. vs ++ ws) (from_next raw s.start i (omega arith) (omega (arith, inside, are.inside))) ∙ sym (append_assoc vs (values_from raw s.start i) (value_at raw i ∷ [])) in
    let end = (place_in s i + by) % top in
    let number = (number_at part (w * n) w + by) % top in
    let is : number ≡ (place_in s i + long (value_at raw i) + by) % top = ap (λ k. (k + by) % top) (copied s n inside ∙ are.same i (omega arith) (omega (arith, inside))) in
    let before_it = added_first s long raw old by n before vs are (omega (arith, inside)) first so_far in
    let both = offsets_more s.width long before (old.out.items ++ moved w by n part) ((old.out.items ++ moved w by n part) ++ number_bytes w number) end number all (value_at raw i)
    before_it refl (λ fits. is ∙ on_by s.width (place_in s i) (long (value_at raw i)) by fits) (subst (λ ws. sum_by long ws ≤ greatest_offset s.width) values near) in (
      sym (append_assoc old.out.items (moved w by n part) (number_bytes w number)) ∙ both.0 ∙ ap (λ ws. before ++ offsets_bytes s.width (map long ws)) (sym values),
      ap (λ k. (k + by) % top) (ap (place_in s) next ∙ are.same i (omega arith) (omega (arith, inside))) ∙ sym is ∙ both.1 ∙ ap (sum_by long) (sym values),
    )

-- so the offsets of all slots are appended
pub spans_added : (s : OffsetRun) (long : PlainValue → ℕ) (raw : List PlainValue) (old new : Writing) (len : ℕ) → AreSpans s long raw → PutsMoved s old.end old.out.items new.out.items
    → len ≡ sum_by long (values_from raw s.start s.stop) → (old.end + len ≤ greatest_offset s.width → new.end ≡ old.end + len)
    → (before : List ℕ) (vs : List PlainValue) → AreOffsetsTo s.width long before vs old → AreOffsetsTo s.width long before (vs ++ values_from raw s.start s.stop) new
spans_added s long raw old new len are puts is next before vs so_far near =
    let end : s.start + (s.stop - s.start) ≡ s.stop = omega (arith, are.there.order) in
    let ws = values_from raw s.start s.stop in
    let all = subst (λ k. sum_by long (vs ++ values_from raw s.start k) ≤ greatest_offset s.width
    → (old.out.items ++ moved (offset_bytes s.width) puts.by (s.stop - s.start) (slice_range s.offsets.now (offset_bytes s.width * (s.start + 1)) (offset_bytes s.width * (s.stop + 1))) ≡ before ++ offsets_bytes s.width (map long (vs ++ values_from raw s.start k)))
    × ((place_in s k + puts.by) % 2 ^ (8 * offset_bytes s.width) ≡ sum_by long (vs ++ values_from raw s.start k))) end
    (added_first s long raw old puts.by (s.stop - s.start) before vs are (omega (arith, are.there.order)) puts.first so_far) near in
    let sum = sum_by-append long vs ws in
    let past = so_far (omega (arith, near, sum)) in
    (puts.added ∙ all.0, next (omega (arith, is, near, sum, past.1)) ∙ omega (arith, is, sum, past.1))

-- offsets do not decrease, and stay within bounds
known : (w : OffsetWidth) (n top : ℕ) (o : List ℕ) (j : ℕ) → ((i : ℕ) → get_or o i 0 < 256) → HasOffsets w n top o → j < n
    → (place_of w o j ≤ place_of w o (j + 1)) × (place_of w o (j + 1) ≤ top)
known w n top o j small rising h =
    let offsets = rising (omega (arith, h)) in
    let long = length-map-range_with_len (place_of w o) 0 (n + 1) in
    let there : get_or (plain_list (offset_bytes w) n o) (j + 1) 0 ≡ place_of w o (j + 1) = get_or-map-range_with_len (place_of w o) 0 (n + 1) (j + 1) (j + 1) 0 (omega (arith, h)) (omega arith) in (
      (numbers_from_offsets (offset_bytes w) o n top small offsets).never j (omega arith) h,
      subst (λ x. x ≤ top) there (offsets_inside (offset_bytes w) o n top small offsets (j + 1) 0 (omega (arith, long, h))),
    )

-- a part of a list
part_long : {A : Type 0} (xs : List A) (a b : ℕ) → a ≤ b → b ≤ length xs → length (slice_range xs a b) ≡ b - a
part_long xs a b order inside = omega (arith, length-take (b - a) (drop a xs), length-drop a xs, order, inside)

-- the content of a slot lies between its offsets, whether it is valid or not
between_them : {A : Type 0} (valid : Bool) (all x : List A) (a b : ℕ) → x ≡ (if valid then slice_range all a b else []) → (valid ≡ false → b ≡ a) → a ≤ b → b ≤ length all
    → (x ≡ slice_range all a b) × (b ≡ a + length x)
between_them true all x a b is nothing order inside = (is, omega (arith, ap length is, part_long all a b order inside, order))
between_them false all x a b is nothing order inside =
    let none : b - a ≡ 0 = omega (arith, nothing refl) in
    (is ∙ sym (ap (λ n. take n (drop a all)) none), omega (arith, nothing refl, ap length is))

-- so it is for each slot of a range, if nothing lies under the nulls of that range
pub each_between : {A : Type 0} (o : Offsets) (all : List A) (give : PlainValue → List A) (raw : List PlainValue) (start stop : ℕ) (s : OffsetRun) → AreHeld o all give raw → AreBetween o start stop s → stop ≤ length raw
    → (j : ℕ) → start ≤ j → j < stop → (place_in s j ≤ place_in s (j + 1)) × (place_in s (j + 1) ≤ length all) × (give (value_at raw j) ≡ slice_range all (place_in s j) (place_in s (j + 1))) × (place_in s (j + 1) ≡ place_in s j + length (give (value_at raw j)))
each_between o all give raw start stop s held are inside j low high =
    let here : j < length raw = omega (arith, high, inside) in
    let there = known o.width (length raw) (length all) o.bytes.now j held.small held.rising here in
    let both = between_them (is_valid_at o.validity.now j) all (give (value_at raw j)) (place_of o.width o.bytes.now j) (place_of o.width o.bytes.now (j + 1)) (held.held j here) (are.nothing j low high) there.0 there.1 in
    subst (λ w. (place_of w s.offsets.now j ≤ place_of w s.offsets.now (j + 1)) × (place_of w s.offsets.now (j + 1) ≤ length all) × (give (value_at raw j) ≡ slice_range all (place_of w s.offsets.now j) (place_of w s.offsets.now (j + 1))) × (place_of w s.offsets.now (j + 1) ≡ place_of w s.offsets.now j + length (give (value_at raw j)))) (sym are.width)
    (subst (λ b. (place_of o.width b j ≤ place_of o.width b (j + 1)) × (place_of o.width b (j + 1) ≤ length all) × (give (value_at raw j) ≡ slice_range all (place_of o.width b j) (place_of o.width b (j + 1))) × (place_of o.width b (j + 1) ≡ place_of o.width b j + length (give (value_at raw j)))) (sym are.offsets)
    (there.0, there.1, both.0, both.1))

pub spans_are : {A : Type 0} (o : Offsets) (all : List A) (give : PlainValue → List A) (raw : List PlainValue) (start stop : ℕ) (s : OffsetRun) → AreHeld o all give raw → AreBetween o start stop s → stop ≤ length raw
    → AreSpansOf s (λ v. length (give v)) raw start stop
spans_are o all give raw start stop s held are inside = record {
  spans = record {
    there = are.there;
    inside = omega (arith, inside, are.last);
    same = λ j low high. (each_between o all give raw start stop s held are inside j (omega (arith, low, are.first)) (omega (arith, high, are.last))).3;
  };
  first = are.first;
  last = are.last;
}

-- the first offset and the last
pub bounds_between : {A : Type 0} (o : Offsets) (all : List A) (give : PlainValue → List A) (raw : List PlainValue) (start stop : ℕ) (s : OffsetRun) → AreHeld o all give raw → AreBetween o start stop s → stop ≤ length raw
    → (place_in s start ≤ place_in s stop) × (place_in s stop ≤ length all)
bounds_between o all give raw start stop s held are inside =
    let each = each_between o all give raw start stop s held are inside in
    let end : start + (stop - start) ≡ stop = omega (arith, are.some) in
    let before : stop - 1 + 1 ≡ stop = omega (arith, are.some) in (
      subst (λ k. place_in s start ≤ place_in s k) end (places_rise give raw all (place_in s) start (stop - start) (λ j low high. let here = each j low (omega (arith, high, are.some)) in (here.0, here.2))),
      subst (λ k. place_in s k ≤ length all) before (each (stop - 1) (omega (arith, are.some)) (omega (arith, are.some))).1,
    )

-- the distance between them is the total length of the slots
pub reach_range : (s : OffsetRun) (long : PlainValue → ℕ) (raw : List PlainValue) (start stop n : ℕ) → AreSpansOf s long raw start stop → n ≡ sum_by long (values_from raw s.start s.stop) → n ≡ sum_by long (values_from raw start stop)
reach_range s long raw start stop n are is = is ∙ (λ i. sum_by long (values_from raw (are.first i) (are.last i)))

-- and the contents of all slots lie between the first offset and the last
pub pieces_between : {A : Type 0} (o : Offsets) (all : List A) (give : PlainValue → List A) (raw : List PlainValue) (start stop : ℕ) (s : OffsetRun) → AreHeld o all give raw → AreBetween o start stop s → stop ≤ length raw
    → slice_range all (place_in s start) (place_in s stop) ≡ flat_map give (values_from raw start stop)
pieces_between o all give raw start stop s held are inside =
    joined_range give raw all (place_in s) start stop (omega (arith, are.some)) inside
    (λ j low high. let each = each_between o all give raw start stop s held are inside j low high in (each.0, each.2))

-- a piece of offsets has the offsets it needs
pub there_in : (part : BufferKind) (vs : List PlainValue) (piece : SlotRun) → IsPiece part vs piece → IsThere piece
there_in part vs (pieces.Bytes bytes) is = tt
there_in Validity vs (pieces.Offsets s) is = absurd is
there_in Truths vs (pieces.Offsets s) is = absurd is
there_in (Numbers number) vs (pieces.Offsets s) is = absurd is
there_in (StringOffsets width) vs (pieces.Offsets s) is = is.spans.there
there_in (ListOffsets width) vs (pieces.Offsets s) is = is.spans.there
there_in Strings vs (pieces.Offsets s) is = absurd is
there_in (FixedBytes width) vs (pieces.Offsets s) is = absurd is

-- what is appended to offsets
abbrev pub AddsSpans : OffsetRun → Writing → Writing → Type 0
AddsSpans s old new =
    (long : PlainValue → ℕ) (raw : List PlainValue) → AreSpans s long raw → (before : List ℕ) (vs : List PlainValue)
    → AreOffsetsTo s.width long before vs old → AreOffsetsTo s.width long before (vs ++ values_from raw s.start s.stop) new

-- the offsets of slots with these values
these_added : (s : OffsetRun) (width : OffsetWidth) (long : PlainValue → ℕ) (old new : Writing) (values : List PlainValue) → AreOffsetsOf s width long values → AddsSpans s old new
    → (before : List ℕ) (vs : List PlainValue) → AreOffsetsTo width long before vs old → AreOffsetsTo width long before (vs ++ values) new
these_added s width long old new values are added before vs =
    subst (λ w. AreOffsetsTo w long before vs old → AreOffsetsTo w long before (vs ++ values) new) are.same_width
    (subst (λ ws. AreOffsetsTo s.width long before vs old → AreOffsetsTo s.width long before (vs ++ ws) new) (sym are.values) (added long are.raw are.spans before vs))

-- so a piece of offsets is added to its buffer
pub offsets_written : (part : BufferKind) (old new : Writing) (s : OffsetRun) (values : List PlainValue) → AreSpansIn part values s → AddsSpans s old new
    → (before : List ℕ) (vs : List PlainValue) → IsWritten part before vs old → IsWritten part before (vs ++ values) new
offsets_written Validity old new s values are added before vs = absurd are
offsets_written Truths old new s values are added before vs = absurd are
offsets_written (Numbers number) old new s values are added before vs = absurd are
offsets_written (StringOffsets width) old new s values are added before vs = these_added s width (λ v. length (bytes_in_value v)) old new values are added before vs
offsets_written (ListOffsets width) old new s values are added before vs = these_added s width (λ v. length (items_in_value 0 v)) old new values are added before vs
offsets_written Strings old new s values are added before vs = absurd are
offsets_written (FixedBytes width) old new s values are added before vs = absurd are

-- offsets of a range of slots are those of their values
pub offsets_of_range : (s : OffsetRun) (width : OffsetWidth) (long : PlainValue → ℕ) (raw : List PlainValue) (start stop : ℕ) → AreSpansOf s long raw start stop → s.width ≡ width → AreOffsetsOf s width long (values_from raw start stop)
offsets_of_range s width long raw start stop are same = record {
  raw = raw;
  spans = are.spans;
  same_width = same;
  values = λ i. values_from raw (sym are.first i) (sym are.last i);
}
