-- Numbers with the same amount added to each.
use Rattle.std.proofs.Common.{◌≡◌, ℕ, zero, suc, ◌+◌, ◌-◌, ◌*◌, ◌/◌, ◌%◌, ◌^◌, ◌<◌, ◌≤◌, List, [], ◌∷◌, ◌++◌, length, take, drop, get_or, refl, ap, ◌∙◌, sym, subst, arith, append_assoc, append-nil, length-append}
use Rattle.std.specs.Int.{bytes_low_first}
use Rattle.std.proofs.Math.Nat.{mul-suc}
use Rattle.std.proofs.Math.Seq.{take-add, drop-append_seam, take-append_seam}
use Rattle.std.proofs.lemmas.List.{drop-drop, drop_all, length-drop, take_all}
use Rattle.std.specs.Prelude.{slice_range}
use Rattle.std.proofs.lemmas.Nat.{mod-mul-add}
use borrow.Rule.Slice.PartMut.{put_mid}
use Rattle.byteorder.proofs.Bytes.{pow256}
use Rattle.arrow_bits.proofs.Reading.{number_at-lt}
use Rattle.arrow_bits.specs.Numbers.{number_at, number_bytes, number_of}
use Rattle.arrow_data.proofs.Again.{number_again_at}
use Rattle.arrow_layout.specs.Form.{offset_bytes}
use Rattle.arrow_layout.specs.Slots.{place_of}
use Rattle.arrow_layout.specs.declared.form.OffsetWidth.{OffsetWidth}
use Rattle.arrow_body_slots.specs.Spans.{PutsMoved, moved}
use Rattle.arrow_body_slots.specs.declared.spans.OffsetRun.{OffsetRun}

-- a number has as many bytes as its width
length_number : (w n : ℕ) → length (number_bytes w n) ≡ w
length_number zero n = refl
length_number (suc w) n = ap suc (length_number w (n / 256))

-- n numbers have `w * n` bytes
pub moved_long : (w by n : ℕ) (bytes : List ℕ) → length (moved w by n bytes) ≡ w * n
moved_long w by zero bytes = omega arith
moved_long w by (suc n) bytes =
    let more = number_bytes w ((number_at bytes (w * n) w + by) % 2 ^ (8 * w)) in
    omega (arith, length-append (moved w by n bytes) more, moved_long w by n bytes, length_number w ((number_at bytes (w * n) w + by) % 2 ^ (8 * w)), mul-suc w n)

-- the bytes of a number, as they are written
pub low_four : (n : ℕ) → bytes_low_first 0 4 n ≡ number_bytes 4 n
low_four n =
    let one : n / 256 ^ 1 % 256 ≡ n / 256 % 256 = omega arith in
    let two : n / 256 ^ 2 % 256 ≡ n / 256 / 256 % 256 = omega arith in
    let three : n / 256 ^ 3 % 256 ≡ n / 256 / 256 / 256 % 256 = omega arith in
    λ i. n % 256 ∷ one i ∷ two i ∷ three i ∷ []

pub low_eight : (n : ℕ) → bytes_low_first 0 8 n ≡ number_bytes 8 n
low_eight n =
    let one : n / 256 ^ 1 % 256 ≡ n / 256 % 256 = omega arith in
    let two : n / 256 ^ 2 % 256 ≡ n / 256 / 256 % 256 = omega arith in
    let three : n / 256 ^ 3 % 256 ≡ n / 256 / 256 / 256 % 256 = omega arith in
    let four : n / 256 ^ 4 % 256 ≡ n / 256 / 256 / 256 / 256 % 256 = omega arith in
    let five : n / 256 ^ 5 % 256 ≡ n / 256 / 256 / 256 / 256 / 256 % 256 = omega arith in
    let six : n / 256 ^ 6 % 256 ≡ n / 256 / 256 / 256 / 256 / 256 / 256 % 256 = omega arith in
    let seven : n / 256 ^ 7 % 256 ≡ n / 256 / 256 / 256 / 256 / 256 / 256 / 256 % 256 = omega arith in
    λ i. n % 256 ∷ one i ∷ two i ∷ three i ∷ four i ∷ five i ∷ six i ∷ seven i ∷ []

-- the numbers before index k are increased, and the numbers after them are unchanged
abbrev pub MovedTo : ℕ → ℕ → ℕ → List ℕ → List ℕ
MovedTo w by k bytes = moved w by k bytes ++ drop (w * k) bytes

-- the bytes after those numbers
pub after : (w by k : ℕ) (old now : List ℕ) → now ≡ MovedTo w by k old → drop (w * k) now ≡ drop (w * k) old
after w by k old now is =
    let front = moved w by k old in
    (λ i. drop (sym (moved_long w by k old) i) (is i)) ∙ drop-append_seam front (drop (w * k) old)

-- so the next number is as it was
pub same_number : (w by k : ℕ) (old now : List ℕ) → now ≡ MovedTo w by k old → number_at now (w * k) w ≡ number_at old (w * k) w
unfolding number_at
same_number w by k old now is = ap (λ bytes. number_of (take w bytes)) (after w by k old now is)

-- there are as many bytes as before
pub moved_to_long : (w by k : ℕ) (old : List ℕ) → w * k ≤ length old → length (MovedTo w by k old) ≡ length old
moved_to_long w by k old inside =
    omega (arith, length-append (moved w by k old) (drop (w * k) old), moved_long w by k old, length-drop (w * k) old, inside)

-- the next number is increased and written back
pub one_more : (w by k : ℕ) (old now written : List ℕ) → w * k + w ≤ length old → length now ≡ length old → now ≡ MovedTo w by k old
    → written ≡ number_bytes w ((number_at old (w * k) w + by) % 2 ^ (8 * w)) ++ drop w (take (length now - w * k) (drop (w * k) now))
    → put_mid (w * k) (length now - w * k) now written ≡ MovedTo w by (k + 1) old
one_more w by k old now written inside long is more =
    let front = moved w by k old in
    let new = number_bytes w ((number_at old (w * k) w + by) % 2 ^ (8 * w)) in
    let first : take (w * k) now ≡ front = (λ i. take (sym (moved_long w by k old) i) (is i)) ∙ take-append_seam front (drop (w * k) old) in
    let all : take (length now - w * k) (drop (w * k) now) ≡ drop (w * k) old =
    take_all (length now - w * k) (drop (w * k) now) (omega (arith, length-drop (w * k) now)) ∙ after w by k old now is in
    let next : w * k + w ≡ w * (k + 1) = omega (arith, mul-suc w k) in
    let rest : drop w (take (length now - w * k) (drop (w * k) now)) ≡ drop (w * (k + 1)) old = ap (drop w) all ∙ drop-drop w (w * k) old ∙ ap (λ n. drop n old) next in
    let none : drop (length now - w * k) (drop (w * k) now) ≡ [] = drop_all (length now - w * k) (drop (w * k) now) (omega (arith, length-drop (w * k) now)) in
    let one : k + 1 ≡ suc k = omega arith in
    (λ i. first i ++ ((more ∙ ap (λ bytes. new ++ bytes) rest) i ++ none i))
    ∙ ap (λ bytes. front ++ bytes) (append-nil (new ++ drop (w * (k + 1)) old))
    ∙ sym (append_assoc front new (drop (w * (k + 1)) old))
    ∙ ap (λ n. moved w by n old ++ drop (w * (k + 1)) old) (sym one)

-- a number below the modulus is its own remainder
below_top : (n m : ℕ) → n < m → (n + 0) % m ≡ n
below_top n m h = let none : n + 0 ≡ 0 * m + n = omega arith in ap (λ k. k % m) none ∙ mod-mul-add 0 m n h

-- nothing is added
pub moved_none : (w n : ℕ) (bytes : List ℕ) → ((i : ℕ) → get_or bytes i 0 < 256) → w * n ≤ length bytes → moved w 0 n bytes ≡ take (w * n) bytes
moved_none w zero bytes small inside = let none : w * 0 ≡ 0 = omega arith in ap (λ m. take m bytes) (sym none)
moved_none w (suc n) bytes small inside =
    let next : w * suc n ≡ w * n + w = omega (arith, mul-suc w n) in
    let here : w * n + w ≤ length bytes = omega (arith, inside, next) in
    let number = number_at bytes (w * n) w in
    let fits : number < 2 ^ (8 * w) = omega (arith, number_at-lt (w * n) w bytes small here, pow256 w) in
    let same : (number + 0) % 2 ^ (8 * w) ≡ number = below_top number (2 ^ (8 * w)) fits in
    (λ i. moved_none w n bytes small (omega (arith, here)) i ++ (ap (number_bytes w) same ∙ number_again_at w bytes (w * n) small here) i)
    ∙ sym (take-add (w * n) w bytes) ∙ ap (λ m. take m bytes) (sym next)

-- so the offsets of either width are added
pub puts_moved : (s : OffsetRun) (width : OffsetWidth) (by end : ℕ) (old new : List ℕ) → s.width ≡ width
    → (place_of width s.offsets.now s.start + by) % 2 ^ (8 * offset_bytes width) ≡ end % 2 ^ (8 * offset_bytes width)
    → new ≡ old ++ moved (offset_bytes width) by (s.stop - s.start) (slice_range s.offsets.now (offset_bytes width * (s.start + 1)) (offset_bytes width * (s.stop + 1)))
    → PutsMoved s end old new
puts_moved s width by end old new is first added = record {
  by = by;
  first = subst (λ w. (place_of w s.offsets.now s.start + by) % 2 ^ (8 * offset_bytes w) ≡ end % 2 ^ (8 * offset_bytes w)) (sym is) first;
  added = subst (λ w. new ≡ old ++ moved (offset_bytes w) by (s.stop - s.start) (slice_range s.offsets.now (offset_bytes w * (s.start + 1)) (offset_bytes w * (s.stop + 1)))) (sym is) added;
}
