-- Buffers in order fill the body, each at its offset.
use Rattle.std.proofs.Common.{◌≡◌, ℕ, ◌+◌, ◌*◌, ◌-◌, ◌/◌, ◌%◌, ◌<◌, ◌≤◌, Bool, true, false, List, [], ◌∷◌, ◌++◌, length, map, take, drop, refl, ap, ◌∙◌, sym, arith, length-take, length-drop}
use Rattle.std.specs.Prelude.{ℤ, pos, negsuc, nat_lt, replicate, ◌≤ℤ◌}
use Rattle.std.specs.List.{flat_map}
use Rattle.std.proofs.lemmas.Bool.{ltb-true, ltb-false}
use Rattle.std.proofs.lemmas.Int.{ints}
use Rattle.std.proofs.lemmas.List.{append_assoc, drop-drop, take-append-drop}
use Rattle.std.proofs.lemmas.Nat.{mod-mul-add}
use Rattle.std.proofs.Math.Nat.{mod-add-div'}
use Rattle.arrow_types.specs.declared.node.Buffer.{Buffer}
use Rattle.arrow_body_reader.specs.Held.{bytes_in, count_of}
use Rattle.arrow_body_laws.specs.Stored.{padded, places_from, rounded}
use Rattle.arrow_body_laws.specs.Canonical.{IsNextMultiple, LieInOrder}
use Rattle.arrow_body_laws.proofs.Joined.{no_elements}
use Rattle.arrow_body_laws.proofs.MadeCanonical.{next_multiple}

-- two multiples are not closer to each other than the alignment
no_gap : (align p q : ℕ) → p ≤ q → q < p + align → p % align ≡ 0 → q % align ≡ 0 → q ≡ p
no_gap align p q le near one other =
    let gap = q - p in
    let here : q ≡ p / align * align + gap = omega (arith, le, mod-add-div' p align, one) in
    let same : gap ≡ 0 = sym (mod-mul-add (p / align) align gap (omega (arith, le, near))) ∙ ap (λ n. n % align) (sym here) ∙ other in
    omega (arith, le, same)

one_multiple_by : (b : Bool) (align end p q : ℕ) → nat_lt p q ≡ b → IsNextMultiple align end p → IsNextMultiple align end q → p ≡ q
one_multiple_by true align end p q e one other =
    sym (no_gap align p q (omega (arith, ltb-true p q e)) (omega (arith, one.past, other.near)) one.multiple other.multiple)
one_multiple_by false align end p q e one other =
    no_gap align q p (omega (arith, ltb-false p q e)) (omega (arith, other.past, one.near)) other.multiple one.multiple

-- the next multiple is unique
one_multiple : (align end p q : ℕ) → IsNextMultiple align end p → IsNextMultiple align end q → p ≡ q
one_multiple align end p q one other = one_multiple_by (nat_lt p q) align end p q refl one other

-- the offset at which buffers begin is inside the body
begins_inside : (align : ℕ) (body : List ℕ) (from : ℕ) (bs : List Buffer) → LieInOrder align body from bs → from ≤ length body
begins_inside align body from [] order = omega (arith, order)
begins_inside align body from (b ∷ bs) order =
    let next = order.2.0 in
    omega (arith, order.2.1.past, begins_inside align body next bs order.2.3)

-- a number that is not negative is its count
pub counted : (z : ℤ) → pos 0 ≤ℤ z → z ≡ pos (count_of z)
counted (pos n) sign = refl
counted (negsuc n) sign = absurd (omega (arith, ints, sign))

-- the bytes of a buffer at an offset, its padding, and the bytes after it
split_at : (body : List ℕ) (from n m : ℕ) (chunk zeros : List ℕ) → take n (drop from body) ≡ chunk → take m (drop (from + n) body) ≡ zeros
    → drop from body ≡ (chunk ++ zeros) ++ drop (from + n + m) body
split_at body from n m chunk zeros first second =
    sym (take-append-drop n (drop from body))
    ∙ (λ i. first i ++ drop-drop n from body i)
    ∙ ap (λ xs. chunk ++ xs) (sym (take-append-drop m (drop (from + n) body)))
    ∙ (λ i. chunk ++ (second i ++ drop-drop m (from + n) body i))
    ∙ sym (append_assoc chunk zeros (drop (from + n + m) body))

-- The buffers and the bytes from an offset on are those of the buffers' bytes.
pub record AreFilled (align : ℕ) (body : List ℕ) (from : ℕ) (bs : List Buffer) : Type 0 where
  pub places : bs ≡ places_from align from (map (bytes_in body) bs)
  pub bytes : drop from body ≡ flat_map (padded align) (map (bytes_in body) bs)

pub are_filled : (align : ℕ) (body : List ℕ) (from : ℕ) (bs : List Buffer) → 0 < align → from % align ≡ 0 → LieInOrder align body from bs → AreFilled align body from bs
are_filled align body from [] some multiple order = record {
  places = refl;
  bytes = no_elements (drop from body) (omega (arith, length-drop from body, order));
}
are_filled align body from (b ∷ bs) some multiple order =
    let n = count_of b.length in
    let chunk = bytes_in body b in
    let chunks = map (bytes_in body) bs in
    let next = order.2.0 in
    let place = order.2.1 in
    let far = begins_inside align body next bs order.2.3 in
    let at : count_of b.offset ≡ from = ap count_of order.0 in
    let here : take n (drop from body) ≡ chunk = ap (λ k. take n (drop k body)) (sym at) in
    let long : length chunk ≡ n = ap length (sym here) ∙ omega (arith, length-take n (drop from body), length-drop from body, far, place.past) in
    let same : next ≡ from + rounded align n = one_multiple align (from + n) next (from + rounded align n) place (next_multiple align from n some multiple) in
    let after : next ≡ from + rounded align (length chunk) = same ∙ ap (λ k. from + rounded align k) (sym long) in
    let gap : next - (from + n) ≡ rounded align (length chunk) - length chunk = omega (arith, after, long, place.past) in
    let inner = are_filled align body next bs some place.multiple order.2.3 in
    let padding : take (next - (from + n)) (drop (from + n) body) ≡ replicate (rounded align (length chunk) - length chunk) 0 =
    order.2.2 ∙ ap (λ k. replicate k 0) gap in
    let end : from + n + (next - (from + n)) ≡ next = omega (arith, place.past) in
    record {
      places = λ i. record { offset = order.0 i; length = (counted b.length order.1 ∙ ap pos (sym long)) i }
          ∷ (inner.places ∙ ap (λ k. places_from align k chunks) after) i;
      bytes = split_at body from n (next - (from + n)) chunk (replicate (rounded align (length chunk) - length chunk) 0) here padding
          ∙ ap (λ k. padded align chunk ++ drop k body) end
          ∙ ap (λ xs. padded align chunk ++ xs) inner.bytes;
    }
