-- Integers after they are written: they are read as the same value.
use Rattle.std.proofs.Common.{◌≡◌, ℕ, zero, suc, ◌-◌, ◌*◌, ◌/◌, ◌^◌, ◌<◌, ◌≤◌, Bool, true, false, List, ◌++◌, length, refl, ap, ◌∙◌, arith}
use Rattle.std.proofs.lemmas.List.{take_all}
use Rattle.std.proofs.Math.Seq.{drop-append_seam}
use Rattle.std.proofs.lemmas.Int.{ints}
use Rattle.std.proofs.Math.Nat.{pow-suc, div-div-eq-div-mul}
use Rattle.std.specs.Prelude.{ℤ, pos, negsuc, ◌<ℤ◌, Result, OnOk, Ok, Err}
use Rattle.std.specs.Int.{w128, bytes_low_first, to_le_bytes, cast_unsigned}
use Rattle.byteorder.proofs.Bytes.{pow256}
use Rattle.arrow_bits.specs.Numbers.{number_of, number_at, signed_at, twos_complement, int_of, FitsInt, number_bytes, int_bytes}

-- the bytes of a number: exactly `width` of them
length_number_bytes : (width n : ℕ) → length (number_bytes width n) ≡ width
length_number_bytes zero n = refl
length_number_bytes (suc width) n = ap suc (length_number_bytes width (n / 256))

-- they form the number again
number_of_bytes : (width n : ℕ) → n < 256 ^ width → number_of (number_bytes width n) ≡ n
number_of_bytes zero n h = omega arith
number_of_bytes (suc width) n h =
    omega (arith, pow-suc 256 width, number_of_bytes width (n / 256) (omega (arith, pow-suc 256 width)))

-- also after other bytes
number_after : (bytes : List ℕ) (width n : ℕ) → n < 2 ^ (8 * width) → number_at (bytes ++ number_bytes width n) (length bytes) width ≡ n
unfolding number_at
number_after bytes width n h =
    let whole = take_all width (number_bytes width n) (omega (arith, length_number_bytes width n)) in
    rw (drop-append_seam bytes (number_bytes width n), whole) (number_of_bytes width n (omega (arith, pow256 width, h)))

-- there are twice as many numbers of a width as there are non-negative ones
pub halves : (width : ℕ) → 1 ≤ width → 2 ^ (8 * width) ≡ 2 ^ (8 * width - 1) * 2
halves width h =
    let e : 8 * width ≡ suc (8 * width - 1) = omega arith in
    ap (λ k. 2 ^ k) e ∙ pow-suc 2 (8 * width - 1)

-- a number of the lower half is not negative
twos_low : (width n : ℕ) → n < 2 ^ (8 * width - 1) → twos_complement width n ≡ pos n
twos_low width n h = grind arith

-- one of the upper half is
twos_high : (width n : ℕ) → 1 ≤ width → n < 2 ^ (8 * width - 1) → twos_complement width (2 ^ (8 * width) - 1 - n) ≡ negsuc n
twos_high width n one h = grind (arith, ints, halves width one)

-- the bytes of a number from byte i upward
number_from : (i width n : ℕ) → bytes_low_first i width n ≡ number_bytes width (n / 256 ^ i)
number_from i zero n = refl
number_from zero (suc width) n =
    let whole : n / 256 ^ 0 ≡ n = omega arith in
    rw (whole, number_from 1 width n) refl
number_from (suc i) (suc width) n =
    let next : n / 256 ^ suc i / 256 ≡ n / 256 ^ suc (suc i) = div-div-eq-div-mul n (256 ^ suc i) 256 ∙ ap (λ m. n / m) (omega (arith, pow-suc 256 (suc i))) in
    rw (next, number_from (suc (suc i)) width n) refl

-- a value in 128 bits has their bytes
pub int_whole : (value : ℤ) → value <ℤ pos (2 ^ 127) → to_le_bytes w128 (cast_unsigned w128 value) ≡ int_bytes 16 value
int_whole (pos n) top =
    let bits : cast_unsigned w128 (pos n) / 256 ^ 0 ≡ n = omega (arith, ints, top) in
    number_from 0 16 (cast_unsigned w128 (pos n)) ∙ ap (number_bytes 16) bits
int_whole (negsuc n) top =
    let bits : cast_unsigned w128 (negsuc n) / 256 ^ 0 ≡ 2 ^ 128 - 1 - n = omega (arith, ints, top) in
    number_from 0 16 (cast_unsigned w128 (negsuc n)) ∙ ap (number_bytes 16) bits

-- the value again, read as signed or unsigned, whichever it fits
pub int_after : (bytes : List ℕ) (width : ℕ) (value : ℤ) → 1 ≤ width → (signed : Bool) → FitsInt width signed value
    → int_of (bytes ++ int_bytes width value) (length bytes) width signed ≡ value
unfolding signed_at
int_after bytes width (pos n) one true fits =
    let half : n < 2 ^ (8 * width - 1) = omega (arith, ints, fits.1) in
    let whole : n < 2 ^ (8 * width) = omega (arith, half, halves width one) in
    ap (twos_complement width) (number_after bytes width n whole) ∙ twos_low width n half
int_after bytes width (pos n) one false fits =
    let whole : n < 2 ^ (8 * width) = omega (arith, ints, fits.1) in
    ap (λ m. pos m) (number_after bytes width n whole)
int_after bytes width (negsuc n) one true fits =
    let half : n < 2 ^ (8 * width - 1) = omega (arith, ints, fits.0) in
    let whole : 2 ^ (8 * width) - 1 - n < 2 ^ (8 * width) = omega (arith, half, halves width one) in
    ap (twos_complement width) (number_after bytes width (2 ^ (8 * width) - 1 - n) whole) ∙ twos_high width n one half
int_after bytes width (negsuc n) one false fits = absurd (omega (arith, ints, fits.0))

-- the same after the bytes were appended
pub int_appended : {E : Type 0} (r : Result (Unit {0}) E) (old new : List ℕ) (width : ℕ) (value : ℤ) → 1 ≤ width
    → OnOk r (new ≡ old ++ int_bytes width value)
    → OnOk r ((signed : Bool) → FitsInt width signed value → int_of new (length old) width signed ≡ value)
int_appended (Ok u) old new width value one same = λ signed fits. rw same (int_after old width value one signed fits)
int_appended (Err e) old new width value one same = same
