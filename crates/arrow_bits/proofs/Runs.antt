-- Consecutive set bits, counted in one byte or in eight at once.
use Rattle.std.proofs.Common.{◌≡◌, ⊎_elim, ℕ, zero, suc, ◌+◌, ◌-◌, ◌*◌, ◌/◌, ◌%◌, ◌^◌, ◌<◌, ◌≤◌, true, false, List, length, take, drop, get_or, refl, ap, ◌∙◌, sym, arith, drop-cons, w8, w64}
use Rattle.std.specs.Prelude.{◌==◌}
use Rattle.std.specs.Int.{Width, bit_at, trailing_ones}
use Rattle.std.proofs.lemmas.Bool.{cases_lt}
use Rattle.std.proofs.lemmas.Nat.{pow-add}
use Rattle.std.proofs.lemmas.Nat.Bits.{bit_at_ones, bit_at_above, bit_at_cat_low, bit_at_cat_high, bit_at-trailing_ones}
use Rattle.std.proofs.Math.Nat.{div-div-eq-div-mul, div-le_self}
use mir.Val.{bits}
use Rattle.arrow_bits.specs.Numbers.{number_of, number_at}
use Rattle.arrow_bits.specs.Bitmap.{bit_of}
use Rattle.arrow_bits.proofs.Counting.{bit_in_byte}

-- the bits of the number that bytes form are the bits of the bytes
bits_of_number : (bytes : List ℕ) (n i : ℕ) → ((k : ℕ) → get_or bytes k 0 < 256) → i + n ≤ length bytes
    → (r : ℕ) → r < 8 * n → bit_of bytes (8 * i + r) ≡ (bit_at (number_of (take n (drop i bytes))) r == 1)
bits_of_number bytes zero i small h r l = absurd (omega arith)
bits_of_number bytes (suc n) i small h r l =
    let byte = get_or bytes i 0 in
    let rest = number_of (take n (drop (suc i) bytes)) in
    let number : number_of (take (suc n) (drop i bytes)) ≡ rest * 2 ^ 8 + byte = rw (drop-cons bytes i 0 (omega arith)) (omega arith) in
    rw number (⊎_elim
    (λ (low : r < 8). bit_in_byte bytes i r low ∙ ap (λ b. b == 1) (sym (bit_at_cat_low rest 8 byte r low)))
    (λ (high : 8 ≤ r).
    let there : 8 * i + r ≡ 8 * suc i + (r - 8) = omega arith in
    let others = bits_of_number bytes n (suc i) small (omega arith) (r - 8) (omega arith) in
    ap (bit_of bytes) there ∙ others ∙ ap (λ b. b == 1) (sym (bit_at_cat_high rest 8 byte r (small i) high)))
    (cases_lt r 8))

-- a bit after the lowest ones were shifted out
bit_shifted : (x s k : ℕ) → bit_at (x / 2 ^ s) k ≡ bit_at x (s + k)
bit_shifted x s k = ap (λ m. m % 2) (div-div-eq-div-mul x (2 ^ s) (2 ^ k) ∙ ap (λ d. x / d) (sym (pow-add 2 s k)))

-- the ones that are counted from the lowest bit on
record LowOnes (w : Width) (y : ℕ) : Type 0 where
  set : (k : ℕ) → k < trailing_ones w y → bit_at y k ≡ 1
  none : trailing_ones w y ≡ 0 → bit_at y 0 ≡ 0

-- if not all bits are set, they end at one that is not
low_ones_some : (w : Width) (y : ℕ) → y + 1 < 2 ^ bits w → LowOnes w y
low_ones_some w y below =
    let found = bit_at-trailing_ones w y below in
    record { set = found.2; none = λ e. ap (bit_at y) (sym e) ∙ found.1 }

-- if all are set, all are counted
low_ones_all : (w : Width) (y : ℕ) → trailing_ones w (2 ^ bits w - 1) ≡ bits w → 0 < bits w → y ≡ 2 ^ bits w - 1 → LowOnes w y
low_ones_all w y whole some e =
    let all : trailing_ones w y ≡ bits w = ap (trailing_ones w) e ∙ whole in
    record {
      set = λ k h. ap (λ n. bit_at n k) e ∙ bit_at_ones (bits w) k (omega (arith, h, all));
      none = λ z. absurd (omega (arith, z, all, some));
    }

-- one of the two holds
low_ones : (w : Width) (y : ℕ) → trailing_ones w (2 ^ bits w - 1) ≡ bits w → 0 < bits w → y < 2 ^ bits w → LowOnes w y
low_ones w y whole some small = ⊎_elim
    (λ (below : y + 1 < 2 ^ bits w). low_ones_some w y below)
    (λ (top : 2 ^ bits w ≤ y + 1). low_ones_all w y whole some (omega (arith, small, top)))
    (cases_lt (y + 1) (2 ^ bits w))

-- the bits from bit j on that a count of ones covers are set, and if it covers none, bit j is not
pub record HasRun (bytes : List ℕ) (j ones : ℕ) : Type 0 where
  pub set : (i : ℕ) → j ≤ i → i < j + ones → bit_of bytes i ≡ true
  pub none : ones ≡ 0 → bit_of bytes j ≡ false

-- the count in the number x of some bytes of a width
run_counted : (w : Width) (bytes : List ℕ) (j x : ℕ) → trailing_ones w (2 ^ bits w - 1) ≡ bits w → 0 < bits w → x < 2 ^ bits w
    → ((r : ℕ) → r < bits w → bit_of bytes (8 * (j / 8) + r) ≡ (bit_at x r == 1)) → j % 8 < bits w
    → HasRun bytes j (trailing_ones w (x / 2 ^ (j % 8)))
run_counted w bytes j x whole some small same inside =
    let s = j % 8 in
    let y = x / 2 ^ s in
    let ones = low_ones w y whole some (omega (arith, small, div-le_self x (2 ^ s))) in
    let here : 8 * (j / 8) + s ≡ j = omega arith in
    let one : (k : ℕ) → k < trailing_ones w y → bit_at x (s + k) ≡ 1 = λ k h. sym (bit_shifted x s k) ∙ ones.set k h in
    let within : (k : ℕ) → k < trailing_ones w y → s + k < bits w = λ k h. ⊎_elim
    (λ (low : s + k < bits w). low)
    (λ (high : bits w ≤ s + k). absurd (omega (arith, one k h, bit_at_above x (bits w) (s + k) small high)))
    (cases_lt (s + k) (bits w)) in
    record {
      set = λ i from h.
          let k = i - j in
          let there : i ≡ 8 * (j / 8) + (s + k) = omega (arith, here, from) in
          let inner : k < trailing_ones w y = omega (arith, from, h) in
          ap (bit_of bytes) there ∙ same (s + k) (within k inner) ∙ ap (λ b. b == 1) (one k inner);
      none = λ z.
          let first : bit_at x s ≡ 0 = ap (bit_at x) (omega arith) ∙ sym (bit_shifted x s 0) ∙ ones.none z in
          ap (bit_of bytes) (sym here) ∙ same s inside ∙ ap (λ b. b == 1) first;
    }

-- all bits of eight bytes
ones_64 : trailing_ones w64 (2 ^ bits w64 - 1) ≡ bits w64
unfolding lib.Count.count_trailing_zeros
ones_64 = refl

-- all bits of a byte
ones_8 : trailing_ones w8 (2 ^ bits w8 - 1) ≡ bits w8
unfolding lib.Count.count_trailing_zeros
ones_8 = refl

-- the ones in eight bytes
pub run_in_word : (bytes : List ℕ) (j x : ℕ) → ((k : ℕ) → get_or bytes k 0 < 256) → j / 8 + 8 ≤ length bytes → x < 18446744073709551616
    → x ≡ number_at bytes (j / 8) 8 → HasRun bytes j (trailing_ones w64 (x / 2 ^ (j % 8)))
unfolding number_at
run_in_word bytes j x small h fits e =
    let same = bits_of_number bytes 8 (j / 8) small h in
    run_counted w64 bytes j x ones_64 (omega arith) fits (λ r l. rw e (same r l)) (omega arith)

-- the ones in a byte
pub run_in_byte : (bytes : List ℕ) (j : ℕ) → ((k : ℕ) → get_or bytes k 0 < 256) → HasRun bytes j (trailing_ones w8 (get_or bytes (j / 8) 0 / 2 ^ (j % 8)))
run_in_byte bytes j small =
    run_counted w8 bytes j (get_or bytes (j / 8) 0) ones_8 (omega arith) (small (j / 8)) (λ r l. bit_in_byte bytes (j / 8) r l) (omega arith)
