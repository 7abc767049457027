-- Packed bits, read back.
use Rattle.std.proofs.Common.{◌≡◌, ℕ, zero, suc, ◌+◌, ◌*◌, ◌/◌, ◌%◌, ◌^◌, ◌<◌, ◌≤◌, Bool, true, false, cond, List, [], ◌∷◌, length, get_or, take, drop, refl, ap, ◌∙◌, arith}
use Rattle.std.specs.Prelude.{◌==◌, nat_lt}
use Rattle.std.proofs.lemmas.Bool.{ltb-true, ltb-false}
use Rattle.std.specs.Int.{bit_at, div_ceil}
use Rattle.std.proofs.lemmas.List.{get_or-take, get_or-drop}
use Rattle.std.proofs.Math.ListN.{get_or-eq_default}
use Rattle.std.proofs.Math.Nat.{pow-suc}
use Rattle.std.proofs.lemmas.List.FromFn.{get_or-map-range_with_len, length-map-range_with_len}
use Rattle.std.proofs.lemmas.Nat.Bits.{bit_at-zero, bit_at_lowest, bit_at-suc}
use Rattle.arrow_bits.specs.Bitmap.{bit_of}
use Rattle.arrow_body_laws.specs.Packed.{number_of_bits, packed}

-- the lowest bit of a number of bits
lowest : (b : Bool) (n : ℕ) → (cond b 1 0 + 2 * n) % 2 ≡ cond b 1 0
lowest true n = omega arith
lowest false n = omega arith

-- the number of the other bits
others : (b : Bool) (n : ℕ) → (cond b 1 0 + 2 * n) / 2 ≡ n
others true n = omega arith
others false n = omega arith

-- a bit of the number of bits
bit_number : (bits : List Bool) (i : ℕ) → bit_at (number_of_bits bits) i ≡ cond (get_or bits i false) 1 0
bit_number [] i = bit_at-zero i
bit_number (b ∷ bits) zero = bit_at_lowest (cond b 1 0 + 2 * number_of_bits bits) ∙ lowest b (number_of_bits bits)
bit_number (b ∷ bits) (suc i) =
    bit_at-suc (cond b 1 0 + 2 * number_of_bits bits) i ∙ ap (λ n. bit_at n i) (others b (number_of_bits bits)) ∙ bit_number bits i

-- a bit is one if it is set
is_one : (b : Bool) → (cond b 1 0 == 1) ≡ b
is_one true = refl
is_one false = refl

-- there are as few bytes as can be
pub packed_few : (bits : List Bool) → length (packed bits) ≡ div_ceil (length bits) 8
packed_few bits = length-map-range_with_len (λ k. number_of_bits (take 8 (drop (8 * k) bits))) 0 (div_ceil (length bits) 8)

-- a bit of a byte that is present
packed_at : (bits : List Bool) (j : ℕ) → j / 8 < div_ceil (length bits) 8 → bit_of (packed bits) j ≡ get_or bits j false
unfolding bit_of
packed_at bits j inside =
    let there = get_or-map-range_with_len (λ k. number_of_bits (take 8 (drop (8 * k) bits))) 0 (div_ceil (length bits) 8) (j / 8) (j / 8) 0 inside (omega arith) in
    let small : j % 8 < 8 = omega arith in
    let back : 8 * (j / 8) + j % 8 ≡ j = omega arith in
    let at : get_or (take 8 (drop (8 * (j / 8)) bits)) (j % 8) false ≡ get_or bits j false =
    get_or-take 8 (drop (8 * (j / 8)) bits) (j % 8) false small
    ∙ get_or-drop (8 * (j / 8)) bits (j % 8) false
    ∙ ap (λ n. get_or bits n false) back in
    let same : bit_at (number_of_bits (take 8 (drop (8 * (j / 8)) bits))) (j % 8) ≡ cond (get_or bits j false) 1 0 =
    bit_number (take 8 (drop (8 * (j / 8)) bits)) (j % 8) ∙ ap (λ b. cond b 1 0) at in
    ap (λ n. bit_at n (j % 8) == 1) {y = number_of_bits (take 8 (drop (8 * (j / 8)) bits))} there
    ∙ ap (λ n. n == 1) same
    ∙ is_one (get_or bits j false)

-- each bit is that of the list
pub packed_bit : (bits : List Bool) (j : ℕ) → j < length bits → bit_of (packed bits) j ≡ get_or bits j false
packed_bit bits j h = packed_at bits j (omega (arith, h))

-- the bytes end before
past : (bytes : List ℕ) (j : ℕ) → length bytes ≤ j / 8 → bit_of bytes j ≡ false
unfolding bit_of
past bytes j h = rw (get_or-eq_default bytes 0 h, bit_at-zero (j % 8)) refl

-- no bytes have no bits
pub empty_spare : (j : ℕ) → bit_of [] j ≡ false
empty_spare j = past [] j (omega arith)

spare_by : (b : Bool) (bits : List Bool) (j : ℕ) → length bits ≤ j → nat_lt (j / 8) (div_ceil (length bits) 8) ≡ b → bit_of (packed bits) j ≡ false
spare_by true bits j h e = packed_at bits j (ltb-true (j / 8) (div_ceil (length bits) 8) e) ∙ get_or-eq_default bits false h
spare_by false bits j h e = past (packed bits) j (omega (arith, packed_few bits, ltb-false (j / 8) (div_ceil (length bits) 8) e))

-- the bits after the last are 0
pub packed_spare : (bits : List Bool) (j : ℕ) → length bits ≤ j → bit_of (packed bits) j ≡ false
packed_spare bits j h = spare_by (nat_lt (j / 8) (div_ceil (length bits) 8)) bits j h refl

none_small : (n : ℕ) → 0 < 2 ^ n
none_small zero = omega arith
none_small (suc n) = omega (arith, pow-suc 2 n, none_small n)

bit_small : (b : Bool) → ◌≤◌ (cond b 1 0) 1
bit_small true = omega arith
bit_small false = omega arith

bits_small : (bits : List Bool) (n : ℕ) → length bits ≤ n → number_of_bits bits < 2 ^ n
bits_small [] n h = none_small n
bits_small (b ∷ bits) zero h = absurd (omega (arith, h))
bits_small (b ∷ bits) (suc n) h = omega (arith, pow-suc 2 n, bits_small bits n (omega (arith, h)), bit_small b)

few_taken : {X : Type 0} (n : ℕ) (xs : List X) → length (take n xs) ≤ n
few_taken zero xs = omega arith
few_taken (suc n) [] = omega arith
few_taken (suc n) (x ∷ xs) = omega (arith, few_taken n xs)

small_by : (b : Bool) (bits : List Bool) (k : ℕ) → nat_lt k (div_ceil (length bits) 8) ≡ b → get_or (packed bits) k 0 < 256
small_by true bits k e =
    let there = get_or-map-range_with_len (λ k. number_of_bits (take 8 (drop (8 * k) bits))) 0 (div_ceil (length bits) 8) k k 0 (ltb-true k (div_ceil (length bits) 8) e) (omega arith) in
    omega (arith, there, bits_small (take 8 (drop (8 * k) bits)) 8 (few_taken 8 (drop (8 * k) bits)))
small_by false bits k e =
    let far : length (packed bits) ≤ k = omega (arith, packed_few bits, ltb-false k (div_ceil (length bits) 8) e) in
    let nothing : get_or (packed bits) k 0 ≡ 0 = get_or-eq_default (packed bits) 0 far in
    omega (arith, nothing)

-- each is a byte
pub packed_small : (bits : List Bool) (k : ℕ) → get_or (packed bits) k 0 < 256
packed_small bits k = small_by (nat_lt k (div_ceil (length bits) 8)) bits k refl
