-- The bits of bytes as a list.
use Rattle.std.proofs.Common.{◌≡◌, ℕ, zero, suc, ◌+◌, ◌<◌, ◌≤◌, Bool, true, false, cond, List, [], ◌∷◌, ◌++◌, length, refl, ap, ◌∙◌, subst, arith, add-one, Some}
use Rattle.std.specs.Prelude.{slice_get, count_by, not}
use Rattle.std.proofs.lemmas.Option.{slice_get-get_or}
use Rattle.std.proofs.lemmas.List.FromFn.{length-map-range_with_len, get_or-map-range_with_len, map-range_with_len_more, sum_by-map-range_with_len_more}
use Rattle.arrow_bits.specs.Bitmap.{bit_of, bits_of, ones_of}

-- there are exactly `n` of them
pub length_bits : (n : ℕ) (bytes : List ℕ) → length (bits_of n bytes) ≡ n
length_bits n bytes = length-map-range_with_len (bit_of bytes) 0 n

-- the one at an index
pub bit_found : (n : ℕ) (bytes : List ℕ) (i : ℕ) → i < n → slice_get (bits_of n bytes) i ≡ Some (bit_of bytes i)
bit_found n bytes i h =
    slice_get-get_or (bits_of n bytes) i false (omega (arith, length_bits n bytes))
    ∙ ap (λ (b : Bool). Some b) (get_or-map-range_with_len (bit_of bytes) 0 n i i false h (omega arith))

-- one more bit
pub more_bits : (n : ℕ) (bytes : List ℕ) → bits_of (n + 1) bytes ≡ bits_of n bytes ++ bit_of bytes n ∷ []
more_bits n bytes = map-range_with_len_more (bit_of bytes) 0 n n (omega arith)

-- a bit that is not set counts one
zero_of : (b : Bool) → ◌≡◌ {A = ℕ} (cond (not b) 1 0) (cond b 0 1)
zero_of true = refl
zero_of false = refl

-- the zeros with one more bit
pub more_zeros : (n : ℕ) (bytes : List ℕ) → count_by not (bits_of (n + 1) bytes) ≡ count_by not (bits_of n bytes) + cond (bit_of bytes n) 0 1
more_zeros n bytes =
    sum_by-map-range_with_len_more (λ (b : Bool). cond (not b) 1 0) (bit_of bytes) 0 n n (omega arith)
    ∙ ap (λ m. count_by not (bits_of n bytes) + m) (zero_of (bit_of bytes n))

-- the ones with one more bit
pub more_ones : (n : ℕ) (bytes : List ℕ) → ones_of (n + 1) bytes ≡ ones_of n bytes + cond (bit_of bytes n) 1 0
more_ones n bytes = sum_by-map-range_with_len_more (λ (b : Bool). cond b 1 0) (bit_of bytes) 0 n n (omega arith)

-- a bit is set or not
one_of_two : (b : Bool) → ◌≡◌ {A = ℕ} (cond b 1 0 + cond b 0 1) 1
one_of_two true = refl
one_of_two false = refl

-- each bit is counted once
pub ones_and_zeros : (n : ℕ) (bytes : List ℕ) → ones_of n bytes + count_by not (bits_of n bytes) ≡ n
ones_and_zeros zero bytes = refl
ones_and_zeros (suc n) bytes =
    let before = ones_and_zeros n bytes in
    let ones = more_ones n bytes in
    let zeros = more_zeros n bytes in
    let last = one_of_two (bit_of bytes n) in
    subst (λ m. ones_of m bytes + count_by not (bits_of m bytes) ≡ m) (add-one n) (omega (arith, before, ones, zeros, last))

-- the facts about a list of bits that its calls use
pub ruleset bit_lists = (length_bits, bit_found, ones_and_zeros)

-- so there are no more set bits than bits
pub few_ones : (n : ℕ) (bytes : List ℕ) → ones_of n bytes ≤ n
few_ones n bytes = omega (arith, ones_and_zeros n bytes)
