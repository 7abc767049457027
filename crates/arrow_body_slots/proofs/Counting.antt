-- Slots counted one by one.
use Rattle.std.proofs.Common.{◌≡◌, ℕ, zero, suc, ◌+◌, ◌-◌, ◌<◌, List, [], ◌∷◌, ◌++◌, length, cond, false, refl, sym, ap, ◌∙◌, subst, arith, append_assoc, append-nil, length-append, not, map, if◌then◌else◌, replicate}
use Rattle.arrow_layout.specs.PlainValue.{PlainValue, null_value, is_null_value}
use Rattle.arrow_layout.specs.declared.form.Form.{Form}
use Rattle.arrow_layout.specs.declared.form.Form.TheVariants as forms
use Rattle.arrow_layout.specs.declared.form.ListForm.TheVariants as lists
use Rattle.arrow_body_laws.specs.Raws.{bytes_in_value, items_in_value, last_offset}
use Rattle.arrow_body_laws.proofs.Slotted.{not_zero}
use Rattle.arrow_body_laws.specs.Packed.{packed}
use Rattle.arrow_body_laws.specs.Stored.{nulls_in, padded, rounded}
use Rattle.arrow_body_slots.specs.Part.{chunk_of, part_bytes}
use Rattle.arrow_body_slots.specs.declared.part.BufferKind.{BufferKind}
use Rattle.arrow_body_slots.specs.declared.part.BufferKind.TheVariants.{Validity, Truths, Numbers, StringOffsets, ListOffsets, Strings, FixedBytes}
use Rattle.arrow_body_slots.proofs.OneMore.{sum_more}
use Rattle.arrow_body_slots.specs.Tally.{Counts, CountsNull, IsTally, capped}
use Rattle.arrow_body_slots.specs.declared.tally.ByteTally.{ByteTally}

-- one more value
nulls_more : (vs : List PlainValue) (v : PlainValue) → nulls_in (vs ++ v ∷ []) ≡ nulls_in vs + cond (is_null_value v) 1 0
nulls_more vs v = sum_more (λ x. cond (is_null_value x) 1 0) vs v

-- the offset after it
pub offset_more : (form : Form) (vs : List PlainValue) (v : PlainValue) → last_offset form (vs ++ v ∷ []) ≡ last_offset form vs + last_offset form (v ∷ [])
offset_more forms.Nulls vs v = refl
offset_more forms.Bits vs v = refl
offset_more (forms.Numbers number) vs v = refl
offset_more (forms.Bytes w) vs v = omega (arith, sum_more (λ x. length (bytes_in_value x)) vs v, sum_more (λ x. length (bytes_in_value x)) [] v)
offset_more (forms.Texts w) vs v = omega (arith, sum_more (λ x. length (bytes_in_value x)) vs v, sum_more (λ x. length (bytes_in_value x)) [] v)
offset_more (forms.FixedBytes w) vs v = refl
offset_more (forms.Lists (lists.Offsets w)) vs v = omega (arith, sum_more (λ x. length (items_in_value 0 x)) vs v, sum_more (λ x. length (items_in_value 0 x)) [] v)
offset_more (forms.Lists (lists.Fixed size)) vs v = refl
offset_more forms.Structs vs v = refl

-- the offset does not advance under a null
offset_null : (form : Form) → last_offset form (null_value ∷ []) ≡ 0
offset_null forms.Nulls = refl
offset_null forms.Bits = refl
offset_null (forms.Numbers number) = refl
offset_null (forms.Bytes w) = refl
offset_null (forms.Texts w) = refl
offset_null (forms.FixedBytes w) = refl
offset_null (forms.Lists (lists.Offsets w)) = refl
offset_null (forms.Lists (lists.Fixed size)) = refl
offset_null forms.Structs = refl

-- a null is counted
pub null_counted : (old new : ByteTally) → new.slots ≡ capped (old.slots + 1) → new.nulls ≡ capped (old.nulls + 1) → new.end ≡ old.end → CountsNull old new
null_counted old new slots nulls end = λ form vs t. record {
  slots = omega (arith, slots, t.slots, length-append vs (null_value ∷ []));
  nulls = omega (arith, nulls, t.nulls, nulls_more vs null_value);
  end = omega (arith, end, t.end, offset_more form vs null_value, offset_null form);
}

-- a slot that is not null is counted
pub slot_counted : (form : Form) (v : PlainValue) (old new : ByteTally) → is_null_value v ≡ false → new.slots ≡ capped (old.slots + 1) → new.nulls ≡ old.nulls
    → new.end ≡ capped (old.end + last_offset form (v ∷ [])) → Counts form (v ∷ []) old new
slot_counted form v old new full slots nulls end = λ vs t. record {
  slots = omega (arith, slots, t.slots, length-append vs (v ∷ []));
  nulls = omega (arith, nulls, t.nulls, nulls_more vs v, ap {B = ℕ} (λ b. cond b 1 0) full);
  end = omega (arith, end, t.end, offset_more form vs v);
}

-- no slots are counted if nothing is done
pub counts_none : (form : Form) (t : ByteTally) → Counts form [] t t
counts_none form t = λ vs is. subst (λ all. IsTally form all t) (sym (append-nil vs)) is

-- slots, and then others
pub counts_more : (form : Form) (a b c : ByteTally) (vs ws : List PlainValue) → Counts form vs a b → Counts form ws b c → Counts form (vs ++ ws) a c
counts_more form a b c vs ws one other = λ before is. subst (λ all. IsTally form all c) (append_assoc before vs ws) (other (before ++ vs) (one before is))

-- no slots are counted yet
pub no_tally : (form : Form) → IsTally form [] (record { slots = 0; nulls = 0; end = 0 })
no_tally form = record { slots = refl; nulls = refl; end = of_form form }
  where
    of_form : (form : Form) → 0 ≡ capped (last_offset form [])
    of_form forms.Nulls = refl
    of_form forms.Bits = refl
    of_form (forms.Numbers number) = refl
    of_form (forms.Bytes w) = refl
    of_form (forms.Texts w) = refl
    of_form (forms.FixedBytes w) = refl
    of_form (forms.Lists (lists.Offsets w)) = refl
    of_form (forms.Lists (lists.Fixed size)) = refl
    of_form forms.Structs = refl

-- the slots taken since then are counted
pub counted_all : (form : Form) (none new : ByteTally) (vs : List PlainValue) → none ≡ record { slots = 0; nulls = 0; end = 0 } → Counts form vs none new → IsTally form vs new
counted_all form none new vs empty counts = counts [] (subst (IsTally form []) (sym empty) (no_tally form))

-- the bytes that are sent for a buffer, if some slot is null or the buffer is not a validity buffer
pub chunk_is : (part : BufferKind) (vs : List PlainValue) (nulls : ℕ) → nulls ≡ capped (nulls_in vs) → (nulls ≡ 0 → part ≡ Validity → ⊥) → chunk_of part vs ≡ part_bytes part vs
chunk_is Validity vs nulls counted some =
    let others : 0 < nulls_in vs = positive (nulls_in vs) (λ e. some (omega (arith, counted, e)) refl) in
    ap (λ b. if b then [] else packed (map (λ v. not (is_null_value v)) vs)) (not_zero (nulls_in vs) others)
  where
    positive : (n : ℕ) → (n ≡ 0 → ⊥) → 0 < n
    positive zero none = absurd (none refl)
    positive (suc n) none = omega arith
chunk_is Truths vs nulls counted some = refl
chunk_is (Numbers number) vs nulls counted some = refl
chunk_is (StringOffsets width) vs nulls counted some = refl
chunk_is (ListOffsets width) vs nulls counted some = refl
chunk_is Strings vs nulls counted some = refl
chunk_is (FixedBytes width) vs nulls counted some = refl

-- a buffer with its padding, and its length
pub chunk_put : (align start stop : ℕ) (out written padded_out chunk : List ℕ) → start ≡ length out → stop ≡ length written → written ≡ out ++ chunk
    → padded_out ≡ written ++ replicate (rounded align (stop - start) - (stop - start)) 0 → (padded_out ≡ out ++ padded align chunk) × (stop - start ≡ length chunk)
chunk_put align start stop out written padded_out chunk begins ends is more =
    let long : stop - start ≡ length chunk = omega (arith, begins, ends, ap length is, length-append out chunk) in (
      more ∙ (λ i. is i ++ replicate (rounded align (long i) - long i) 0) ∙ append_assoc out chunk (replicate (rounded align (length chunk) - length chunk) 0),
      long,
    )
