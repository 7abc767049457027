-- Ranges put after others.
use Rattle.std.proofs.Common.{◌≡◌, ℕ, zero, suc, pos, negsuc, ℤ, ◌+◌, ◌*◌, ◌/◌, ◌^◌, ◌-◌, ◌<◌, ◌≤◌, ◌++◌, Bool, false, List, length, take, refl, ap, sym, ◌∙◌, subst, arith, length-append, Option, None, Some}
use Rattle.std.specs.Prelude.{IfSome, is_some, slice_range}
use Rattle.std.proofs.lemmas.Bool.{cases_lt}
use Rattle.std.proofs.lemmas.Int.{ints, to_z_pos}
use Rattle.std.proofs.Common.{inl, inr}
use mir.Syntax.{w128}
use mir.Val.{to_z}
use Rattle.arrow_bits.specs.Numbers.{number_at, number_bytes, int_bytes, int_of, FitsInt}
use Rattle.arrow_layout.specs.Form.{offset_bytes}
use Rattle.arrow_layout.specs.PlainValue.{PlainValue}
use Rattle.arrow_layout.specs.Slots.{is_valid_at, place_of, range_of}
use Rattle.arrow_layout.specs.declared.form.OffsetWidth.{OffsetWidth}
use Rattle.arrow_layout.specs.declared.form.OffsetWidth.TheVariants.{Small, Large}
use Rattle.arrow_builder.specs.Kept.{KeepsRanges, offset_bound}
use Rattle.arrow_builder.specs.Puts.{PutsSlot, PutsValid, StayPlaces, StaySlots, part_slot, value_or_null}
use Rattle.arrow_builder.proofs.Putting.{number_by_start, or_null_put, or_null_same, place_inside, range_after, range_by_start}

-- the offsets of the same first bytes are the same
pub places_stay : (width : OffsetWidth) (at : ℕ) (old new : List ℕ) → take (offset_bytes width * (at + 1)) new ≡ take (offset_bytes width * (at + 1)) old → StayPlaces width at old new
places_stay width at old new start = λ j h.
    number_by_start old new (offset_bytes width * (at + 1)) (offset_bytes width * j) (offset_bytes width) start (place_inside (offset_bytes width) j (at + 1) (omega (arith, h)))

-- an offset is an unsigned number
pub offset_fits : (width : OffsetWidth) (place : ℕ) → place < offset_bound width → FitsInt (offset_bytes width) false (pos place)
offset_fits Small place low = (omega (arith, ints), omega (arith, ints, low))
offset_fits Large place low = (omega (arith, ints), omega (arith, ints, low))

-- the number that is read as unsigned
pub plain_place : (width : OffsetWidth) (offsets : List ℕ) (at place end : ℕ) → place ≡ offset_bytes width * at → int_of offsets place (offset_bytes width) false ≡ pos end
    → place_of width offsets at ≡ end
plain_place width offsets at place end here reads = sym (ap (λ p. number_at offsets p (offset_bytes width)) here) ∙ omega (arith, ints, reads)

-- fewer or other validity bits, as long as there are enough, and the same offsets
pub ranges_stay : (width : OffsetWidth) (at : ℕ) (validity validity' old new : List ℕ) → KeepsRanges width at validity old → at ≤ 8 * length validity'
    → offset_bytes width * (at + 1) ≤ length new → StayPlaces width at old new → KeepsRanges width at validity' new
ranges_stay width at validity validity' old new kept bits there same = record {
  bits = bits;
  there = there;
  zero = same 0 (omega arith) ∙ kept.zero;
  never = λ j h. rw (same j (omega (arith, h)), same (j + 1) (omega (arith, h))) (kept.never j h);
  low = rw (same at (omega arith)) kept.low;
}

-- one more
pub ranges_put : (width : OffsetWidth) (at end : ℕ) (validity validity' old new : List ℕ) → KeepsRanges width at validity old → at + 1 ≤ 8 * length validity'
    → offset_bytes width * (at + 1 + 1) ≤ length new → StayPlaces width at old new → place_of width old at ≤ end → end < offset_bound width → place_of width new (at + 1) ≡ end
    → KeepsRanges width (at + 1) validity' new
ranges_put width at end validity validity' old new kept bits there same order low put = record {
  bits = bits;
  there = there;
  zero = same 0 (omega arith) ∙ kept.zero;
  never = λ j h. elim (cases_lt j at) [ inl before ↦ rw (same j (omega (arith, before)), same (j + 1) (omega (arith, before))) (kept.never j before) | inr not ↦ subst (λ k. place_of width new k ≤ place_of width new (k + 1)) (sym (last j h not)) (rw (same at (omega arith), put) order) ];
  low = rw put low;
}
  where
    last : (j : ℕ) → j < at + 1 → at ≤ j → j ≡ at
    last j h le = omega (arith, h, le)

-- an offset is the same as a number of sixteen bytes
pub offset_whole : (width : OffsetWidth) (place : ℕ) → place < offset_bound width → to_z w128 place ≡ pos place
offset_whole Small place low = to_z_pos w128 place (omega (arith, low))
offset_whole Large place low = to_z_pos w128 place (omega (arith, low))

-- the offset that was appended
pub offset_appended : (width : OffsetWidth) (at end w : ℕ) (cut new : List ℕ) (z : ℤ) → w ≡ offset_bytes width → z ≡ pos end → end < offset_bound width
    → length cut ≡ offset_bytes width * (at + 1) → ((signed : Bool) → FitsInt w signed z → int_of new (length cut) w signed ≡ z) → place_of width new (at + 1) ≡ end
offset_appended width at end w cut new z wide whole low long reads =
    let fits : FitsInt w false z = subst (λ v. FitsInt v false z) (sym wide) (subst (FitsInt (offset_bytes width) false) (sym whole) (offset_fits width end low)) in
    plain_place width new (at + 1) (length cut) end long (ap (λ v. int_of new (length cut) v false) (sym wide) ∙ reads false fits ∙ whole)

-- a number has as many bytes as its width
length_number : (width n : ℕ) → length (number_bytes width n) ≡ width
length_number zero n = refl
length_number (suc width) n = ap suc (length_number width (n / 256))

pub length_int : (width : ℕ) (z : ℤ) → length (int_bytes width z) ≡ width
length_int width (pos n) = length_number width n
length_int width (negsuc n) = length_number width (2 ^ (8 * width) - 1 - n)

-- there is one more offset
pub one_more_there : (width : OffsetWidth) (at : ℕ) (cut new : List ℕ) (w : ℕ) (z : ℤ) → w ≡ offset_bytes width → length cut ≡ offset_bytes width * (at + 1)
    → new ≡ cut ++ int_bytes w z → offset_bytes width * (at + 1 + 1) ≤ length new
one_more_there width at cut new w z wide long same =
    let grown : length new ≡ length cut + length (int_bytes w z) = ap (λ xs. length xs) same ∙ length-append cut (int_bytes w z) in
    let steps : offset_bytes width * (at + 1 + 1) ≡ offset_bytes width * (at + 1) + offset_bytes width = grind arith in
    omega (arith, grown, long, wide, length_int w z, steps)

-- offsets do not decrease, also from one to any later one
climbs : (width : OffsetWidth) (len : ℕ) (validity offsets : List ℕ) → KeepsRanges width len validity offsets → (j k : ℕ) → j + k ≤ len → place_of width offsets j ≤ place_of width offsets (j + k)
climbs width len validity offsets kept j zero h =
    let here : j + 0 ≡ j = omega arith in
    subst (λ m. place_of width offsets j ≤ place_of width offsets m) (sym here) (omega arith)
climbs width len validity offsets kept j (suc k) h =
    let next : j + k + 1 ≡ j + suc k = omega arith in
    subst (λ m. place_of width offsets j ≤ place_of width offsets m) next (omega (arith, climbs width len validity offsets kept j k (omega (arith, h)), kept.never (j + k) (omega (arith, h))))

-- no range ends past the last offset
pub place_below : (width : OffsetWidth) (len : ℕ) (validity offsets : List ℕ) → KeepsRanges width len validity offsets → (j : ℕ) → j ≤ len → place_of width offsets j ≤ place_of width offsets len
place_below width len validity offsets kept j h =
    let gap : j + (len - j) ≡ len = omega (arith, h) in
    subst (λ m. place_of width offsets j ≤ place_of width offsets m) gap (climbs width len validity offsets kept j (len - j) (omega (arith, h)))

-- the ranges of the first slots stay
pub ranges_same : (width : OffsetWidth) (at : ℕ) (validity offsets offsets' bytes bytes' : List ℕ) → KeepsRanges width at validity offsets → StayPlaces width at offsets offsets'
    → take (place_of width offsets at) bytes' ≡ take (place_of width offsets at) bytes → (j : ℕ) → j < at → range_of width offsets' bytes' j ≡ range_of width offsets bytes j
ranges_same width at validity offsets offsets' bytes bytes' kept same start j h =
    (λ i. slice_range bytes' (same j (omega (arith, h)) i) (same (j + 1) (omega (arith, h)) i))
    ∙ (range_by_start bytes bytes' (place_of width offsets at) (place_of width offsets j) (place_of width offsets (j + 1)) start (place_below width at validity offsets kept (j + 1) (omega (arith, h))))

-- so do their values
pub parts_stay : (value : List ℕ → PlainValue) (width : OffsetWidth) (at : ℕ) (validity validity' offsets offsets' bytes bytes' : List ℕ) → KeepsRanges width at validity offsets
    → ((j : ℕ) → j < at → is_valid_at validity' j ≡ is_valid_at validity j) → StayPlaces width at offsets offsets'
    → take (place_of width offsets at) bytes' ≡ take (place_of width offsets at) bytes
    → StaySlots at (part_slot value width validity offsets bytes) (part_slot value width validity' offsets' bytes')
parts_stay value width at validity validity' offsets offsets' bytes bytes' kept valid same start = λ j h.
    or_null_same validity validity' j (value (range_of width offsets bytes j)) (value (range_of width offsets' bytes' j)) (valid j h)
    (ap value (ranges_same width at validity offsets offsets' bytes bytes' kept same start j h))

-- the part that was appended is that of the slot
part_in_slot : {A : Type 0} (view : A → List ℕ) (value : List ℕ → PlainValue) (width : OffsetWidth) (at : ℕ) (part : Option A) (front bytes offsets : List ℕ)
    → length front ≡ place_of width offsets at → place_of width offsets (at + 1) ≡ length bytes → IfSome part (λ b. bytes ≡ front ++ view b)
    → IfSome part (λ b. value (range_of width offsets bytes at) ≡ value (view b))
part_in_slot view value width at None front bytes offsets start stop same = same
part_in_slot view value width at (Some b) front bytes offsets start stop same =
    let end : place_of width offsets (at + 1) ≡ place_of width offsets at + length (view b) = omega (arith, start, stop, ap (λ xs. length xs) same, length-append front (view b)) in
    ap value (ap (slice_range bytes (place_of width offsets at)) end ∙ ap (λ xs. slice_range xs (place_of width offsets at) (place_of width offsets at + length (view b))) same
    ∙ range_after front (view b) (place_of width offsets at) (length (view b)) start refl)

-- one more part of the bytes
pub parts_put : {A : Type 0} (view : A → List ℕ) (value : List ℕ → PlainValue) (width : OffsetWidth) (at : ℕ) (part : Option A) (validity validity' offsets offsets' bytes front bytes' : List ℕ)
    → KeepsRanges width at validity offsets → PutsValid at (is_some part) validity validity' → StayPlaces width at offsets offsets'
    → take (place_of width offsets at) bytes' ≡ take (place_of width offsets at) bytes → length front ≡ place_of width offsets at
    → place_of width offsets' (at + 1) ≡ length bytes' → IfSome part (λ b. bytes' ≡ front ++ view b)
    → PutsSlot at (value_or_null (λ b. value (view b)) part) (part_slot value width validity offsets bytes) (part_slot value width validity' offsets' bytes')
parts_put view value width at part validity validity' offsets offsets' bytes front bytes' kept valid same start long end has = record {
  same = parts_stay value width at validity validity' offsets offsets' bytes bytes' kept valid.same same start;
  put = or_null_put (λ b. value (view b)) part validity' at (value (range_of width offsets' bytes' at)) valid.put
      (part_in_slot view value width at part front bytes' offsets' (long ∙ sym (same at (omega arith))) end has);
}
