-- One more slot in a buffer.
use Rattle.std.proofs.Common.{◌≡◌, ◌≤◌, ℕ, ◌+◌, List, [], ◌∷◌, ◌++◌, length, map, ap, ◌∙◌, sym, subst, arith, append_assoc, append-nil, inl, inr}
use Rattle.std.specs.Prelude.{◌⊎◌}
use Rattle.std.specs.List.{flat_map, sum_by}
use Rattle.std.proofs.lemmas.Grind.{flat_map-append}
use Rattle.std.proofs.lemmas.List.{map-append}
use Rattle.std.proofs.lemmas.List.Sums.{sum_by-append, sum_by-cons}
use Rattle.arrow_bits.specs.Numbers.{int_bytes, number_bytes}
use Rattle.arrow_layout.specs.Form.{greatest_offset, offset_bytes}
use Rattle.arrow_layout.specs.PlainValue.{PlainValue, null_value}
use Rattle.arrow_layout.specs.declared.form.OffsetWidth.{OffsetWidth}
use Rattle.arrow_body_laws.specs.Packed.{offsets_bytes, sums_from}
use Rattle.arrow_body_laws.specs.Raws.{bytes_in_value, items_in_value, number_in}
use Rattle.arrow_body_laws.specs.Stored.{number_buffer}
use Rattle.arrow_body_slots.specs.Part.{HasNextOffset, IsWritten}
use Rattle.arrow_body_slots.specs.declared.part.BufferKind.{BufferKind}
use Rattle.arrow_body_slots.specs.declared.part.BufferKind.TheVariants.{StringOffsets, ListOffsets}
use Rattle.arrow_body_slots.specs.declared.writing.Writing.{Writing}

-- pieces with one more
pub pieces_more : (f : PlainValue → List ℕ) (before items new : List ℕ) (vs : List PlainValue) (v : PlainValue) → items ≡ before ++ flat_map f vs → new ≡ items ++ f v → new ≡ before ++ flat_map f (vs ++ v ∷ [])
pieces_more f before items new vs v so_far more =
    more ∙ ap (λ b. b ++ f v) so_far ∙ append_assoc before (flat_map f vs) (f v)
    ∙ ap (λ b. before ++ b) (sym (flat_map-append f vs (v ∷ []) ∙ ap (λ b. flat_map f vs ++ b) (append-nil (f v))))

-- numbers with one more
pub numbers_more : (w : ℕ) (before items new : List ℕ) (vs : List PlainValue) (v : PlainValue) → items ≡ before ++ number_buffer w vs → new ≡ items ++ int_bytes w (number_in v) → new ≡ before ++ number_buffer w (vs ++ v ∷ [])
numbers_more w before items new vs v so_far more =
    more ∙ ap (λ b. b ++ int_bytes w (number_in v)) so_far ∙ append_assoc before (number_buffer w vs) (int_bytes w (number_in v))
    ∙ ap (λ b. before ++ b) (sym (ap (flat_map (int_bytes w)) (map-append number_in vs (v ∷ [])) ∙ flat_map-append (int_bytes w) (map number_in vs) (number_in v ∷ [])
    ∙ ap (λ b. number_buffer w vs ++ b) (append-nil (int_bytes w (number_in v)))))

-- a sum with one more
pub sum_more : (f : PlainValue → ℕ) (vs : List PlainValue) (v : PlainValue) → sum_by f (vs ++ v ∷ []) ≡ sum_by f vs + f v
sum_more f vs v = sum_by-append f vs (v ∷ []) ∙ omega (arith, sum_by-cons f v [])

-- the sums of these values and of one more
sums_more : (f : PlainValue → ℕ) (n : ℕ) (vs : List PlainValue) (v : PlainValue) → sums_from n (map f (vs ++ v ∷ [])) ≡ sums_from n (map f vs) ++ (n + sum_by f (vs ++ v ∷ [])) ∷ []
sums_more f n [] v = ap (λ m. n ∷ m ∷ []) (omega (arith, sum_more f [] v))
sums_more f n (x ∷ vs) v =
    ap (λ ms. n ∷ ms) (sums_more f (n + f x) vs v ∙ ap (λ m. sums_from (n + f x) (map f vs) ++ m ∷ []) (omega (arith, sum_by-cons f x (vs ++ v ∷ []))))

-- offsets with one more
pub offsets_more : (width : OffsetWidth) (f : PlainValue → ℕ) (before items new : List ℕ) (end next : ℕ) (vs : List PlainValue) (v : PlainValue)
    → (sum_by f vs ≤ greatest_offset width → (items ≡ before ++ offsets_bytes width (map f vs)) × (end ≡ sum_by f vs))
    → new ≡ items ++ number_bytes (offset_bytes width) next → (end + f v ≤ greatest_offset width → next ≡ end + f v)
    → sum_by f (vs ++ v ∷ []) ≤ greatest_offset width → (new ≡ before ++ offsets_bytes width (map f (vs ++ v ∷ []))) × (next ≡ sum_by f (vs ++ v ∷ []))
offsets_more width f before items new end next vs v so_far more to small =
    let sum = sum_more f vs v in
    let past = so_far (omega (arith, small, sum)) in
    let here : next ≡ sum_by f (vs ++ v ∷ []) = to (omega (arith, small, sum, past.1)) ∙ omega (arith, sum, past.1) in
    let piece = number_bytes (offset_bytes width) in
    let none_before : 0 + sum_by f (vs ++ v ∷ []) ≡ sum_by f (vs ++ v ∷ []) = omega arith in (
      more ∙ (λ i. past.0 i ++ piece (here i)) ∙ append_assoc before (offsets_bytes width (map f vs)) (piece (sum_by f (vs ++ v ∷ [])))
          ∙ ap (λ b. before ++ b) (sym (ap (flat_map piece) (sums_more f 0 vs v ∙ ap (λ n. sums_from 0 (map f vs) ++ n ∷ []) none_before) ∙ flat_map-append piece (sums_from 0 (map f vs)) (sum_by f (vs ++ v ∷ []) ∷ [])
          ∙ ap (λ b. offsets_bytes width (map f vs) ++ b) (append-nil (piece (sum_by f (vs ++ v ∷ [])))))),
      here,
    )

-- the next offset of byte strings or texts
pub strings_step : (part : BufferKind) (width : OffsetWidth) (old new : Writing) (v : PlainValue) → part ≡ StringOffsets width → HasNextOffset width (length (bytes_in_value v)) old new
    → (before : List ℕ) (vs : List PlainValue) → IsWritten part before vs old → IsWritten part before (vs ++ v ∷ []) new
strings_step part width old new v is next before vs =
    subst (λ p. IsWritten p before vs old → IsWritten p before (vs ++ v ∷ []) new) (sym is)
    (λ so_far. offsets_more width (λ v. length (bytes_in_value v)) before old.out.items new.out.items old.end new.end vs v so_far next.0 next.1)

-- the next offset of lists
pub lists_step : (part : BufferKind) (width : OffsetWidth) (old new : Writing) (v : PlainValue) → part ≡ ListOffsets width → HasNextOffset width (length (items_in_value 0 v)) old new
    → (before : List ℕ) (vs : List PlainValue) → IsWritten part before vs old → IsWritten part before (vs ++ v ∷ []) new
lists_step part width old new v is next before vs =
    subst (λ p. IsWritten p before vs old → IsWritten p before (vs ++ v ∷ []) new) (sym is)
    (λ so_far. offsets_more width (λ v. length (items_in_value 0 v)) before old.out.items new.out.items old.end new.end vs v so_far next.0 next.1)

-- the next offset at a null
pub null_step : (part : BufferKind) (width : OffsetWidth) (old new : Writing) → (part ≡ StringOffsets width) ⊎ (part ≡ ListOffsets width) → HasNextOffset width 0 old new
    → (before : List ℕ) (vs : List PlainValue) → IsWritten part before vs old → IsWritten part before (vs ++ null_value ∷ []) new
null_step part width old new (inl is) next = strings_step part width old new null_value is next
null_step part width old new (inr is) next = lists_step part width old new null_value is next
