-- The values of slots, more or fewer of them.
use Rattle.std.proofs.Common.{◌≡◌, ℕ, zero, suc, ◌+◌, ◌*◌, ◌<◌, ◌≤◌, List, [], ◌∷◌, ◌++◌, map, take, refl, ap, sym, ◌∙◌, arith}
use Rattle.std.specs.List.{AllByRecursion, range_with_len}
use Rattle.std.proofs.Math.Nat.{mul-le-mul_left}
use Rattle.arrow_layout.specs.Form.{number_width, offset_bytes}
use Rattle.arrow_layout.specs.PlainValue.{PlainValue}
use Rattle.arrow_layout.specs.Slots.{slots}
use Rattle.arrow_layout.specs.declared.form.Form.{Form}
use Rattle.arrow_layout.specs.declared.form.Form.TheVariants as forms
use Rattle.arrow_layout.specs.declared.form.ListForm.{ListForm}
use Rattle.arrow_layout.specs.declared.form.ListForm.TheVariants as lists
use Rattle.arrow_layout.specs.declared.form.OffsetWidth.{OffsetWidth}
use Rattle.arrow_builder.specs.Kept.{Keeps, KeepsLists, KeepsParts, KeepsRanges}
use Rattle.arrow_builder.specs.Puts.{PutsSlot, StaySlots}
use Rattle.arrow_builder.proofs.Ranging.{place_below}

-- the first of the values from an index on
take_from : (f : ℕ → PlainValue) (a n at : ℕ) → at ≤ n → take at (map f (range_with_len a n)) ≡ map f (range_with_len a at)
take_from f a n zero h = refl
take_from f a zero (suc at) h = absurd (omega (arith, h))
take_from f a (suc n) (suc at) h = ap (λ vs. f a ∷ vs) (take_from f (a + 1) n at (omega (arith, h)))

-- the first of the values
pub take_slots : (f : ℕ → PlainValue) (n at : ℕ) → at ≤ n → take at (slots n f) ≡ slots at f
take_slots f n at h = take_from f 0 n at h

-- the same values from an index on
pub same_from : {A : Type 0} (f g : ℕ → A) (a n : ℕ) → ((j : ℕ) → j < a + n → f j ≡ g j) → map f (range_with_len a n) ≡ map g (range_with_len a n)
same_from f g a zero same = refl
same_from f g a (suc n) same = (λ i. same a (omega arith) i ∷ same_from f g (a + 1) n (λ j h. same j (omega (arith, h))) i)

-- the values are unchanged if the slots are
pub slots_stay : (n : ℕ) (old new : ℕ → PlainValue) → StaySlots n old new → slots n new ≡ slots n old
slots_stay n old new stay = same_from new old 0 n (λ j h. stay j (omega (arith, h)))

-- one more value from an index on
one_more_from : (f : ℕ → PlainValue) (a n : ℕ) → map f (range_with_len a (suc n)) ≡ map f (range_with_len a n) ++ f (a + n) ∷ []
one_more_from f a zero = let here : a + 0 ≡ a = omega arith in ap (λ j. f j ∷ []) (sym here)
one_more_from f a (suc n) =
    let there : a + 1 + n ≡ a + suc n = omega arith in
    ap (λ vs. f a ∷ vs) (one_more_from f (a + 1) n ∙ ap (λ j. map f (range_with_len (a + 1) n) ++ f j ∷ []) there)

-- putting a value into the slot after the first n appends it to their values
pub slots_put : (n : ℕ) (value : PlainValue) (old new : ℕ → PlainValue) → PutsSlot n value old new → slots (n + 1) new ≡ slots n old ++ value ∷ []
slots_put n value old new puts =
    let next : n + 1 ≡ suc n = omega arith in
    let here : 0 + n ≡ n = omega arith in
    ap (λ m. slots m new) next ∙ one_more_from new 0 n ∙ (λ i. slots_stay n old new puts.same i ++ new (here i) ∷ []) ∙ ap (λ v. slots n old ++ v ∷ []) puts.put

-- what holds of all values holds of the first ones
pub all_take : {A : Type 0} (P : A → Type 0) (n : ℕ) (xs : List A) → AllByRecursion P xs → AllByRecursion P (take n xs)
all_take P zero xs h = tt
all_take P (suc n) [] h = tt
all_take P (suc n) (x ∷ xs) h = (h.0, all_take P n xs h.1)

-- and with one more
pub all_push : {A : Type 0} (P : A → Type 0) (xs : List A) (x : A) → AllByRecursion P xs → P x → AllByRecursion P (xs ++ x ∷ [])
all_push P [] x h last = (last, tt)
all_push P (y ∷ xs) x h last = (h.0, all_push P xs x h.1 last)

-- a lower bound of each count is still one when it is smaller
at_least_fewer : (at len : ℕ) (counts : List ℕ) → at ≤ len → AllByRecursion (λ count. len ≤ count) counts → AllByRecursion (λ count. at ≤ count) counts
at_least_fewer at len [] le h = tt
at_least_fewer at len (count ∷ counts) le h = (omega (arith, le, h.0), at_least_fewer at len counts le h.1)

-- fewer slots take fewer bytes
times : (width at len : ℕ) → at ≤ len → width * at ≤ width * len
times width at len le = mul-le-mul_left width le

-- the ranges of fewer slots
ranges_fewer : (width : OffsetWidth) (at len : ℕ) (validity offsets : List ℕ) → at ≤ len → KeepsRanges width len validity offsets → KeepsRanges width at validity offsets
ranges_fewer width at len validity offsets le kept = record {
  bits = omega (arith, le, kept.bits);
  there = omega (arith, times (offset_bytes width) (at + 1) (len + 1) (omega (arith, le)), kept.there);
  zero = kept.zero;
  never = λ j h. kept.never j (omega (arith, h, le));
  low = omega (arith, place_below width len validity offsets kept at le, kept.low);
}

parts_fewer : (width : OffsetWidth) (at len top : ℕ) (validity offsets : List ℕ) → at ≤ len → KeepsParts width len top validity offsets → KeepsParts width at top validity offsets
parts_fewer width at len top validity offsets le kept = record {
  ranges = ranges_fewer width at len validity offsets le kept.ranges;
  inside = omega (arith, place_below width len validity offsets kept.ranges at le, kept.inside);
}

-- the items of fewer lists
pub lists_fewer : (list : ListForm) (at len top : ℕ) (validity offsets : List ℕ) → at ≤ len → KeepsLists list len top validity offsets → KeepsLists list at top validity offsets
lists_fewer (lists.Offsets width) at len top validity offsets le kept = parts_fewer width at len top validity offsets le kept
lists_fewer (lists.Fixed size) at len top validity offsets le kept = record {
  bits = omega (arith, le, kept.bits);
  inside = omega (arith, times size at len le, kept.inside);
}

-- buffers and children hold fewer slots too
pub keeps_fewer : (form : Form) (at len : ℕ) (b : List (List ℕ)) (counts : List ℕ) → at ≤ len → Keeps form len b counts → Keeps form at b counts
keeps_fewer forms.Nulls at len b counts le kept = kept
keeps_fewer forms.Bits at len b counts le kept = record { bits = omega (arith, le, kept.bits); long = omega (arith, le, kept.long) }
keeps_fewer (forms.Numbers number) at len b counts le kept = record {
  bits = omega (arith, le, kept.bits);
  long = omega (arith, times (number_width number) at len le, kept.long);
}
keeps_fewer (forms.Bytes width) at len b counts le kept = parts_fewer width at len _ _ _ le kept
keeps_fewer (forms.Texts width) at len b counts le kept = parts_fewer width at len _ _ _ le kept
keeps_fewer (forms.FixedBytes width) at len b counts le kept = record {
  bits = omega (arith, le, kept.bits);
  long = omega (arith, times width at len le, kept.long);
}
keeps_fewer (forms.Lists list) at len b counts le kept = lists_fewer list at len _ _ _ le kept
keeps_fewer forms.Structs at len b counts le kept = record { bits = omega (arith, le, kept.bits); longer = at_least_fewer at len counts le kept.longer }
