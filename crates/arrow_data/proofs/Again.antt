-- Bytes are the bytes of the number that they encode.
use Rattle.std.proofs.Common.{◌≡◌, ℕ, zero, suc, ◌+◌, ◌*◌, ◌-◌, ◌/◌, ◌%◌, ◌^◌, ◌<◌, ◌≤◌, Bool, true, false, List, [], ◌∷◌, length, get_or, take, drop, refl, ap, ◌∙◌, arith, length-take, length-drop}
use Rattle.std.specs.Prelude.{pos, negsuc, nat_lt, ◌-ℤ◌, if◌then◌else◌}
use Rattle.std.proofs.lemmas.Int.{ints}
use Rattle.std.proofs.lemmas.List.{get_or-drop}
use Rattle.arrow_bits.specs.Numbers.{number_of, number_at, signed_at, twos_complement, int_of, number_bytes, int_bytes}
use Rattle.arrow_bits.proofs.Ranged.{int_fits}
use Rattle.arrow_bits.proofs.Reading.{bytes_take}

-- bytes are the bytes of the number that they encode
pub bytes_again : (w : ℕ) (bytes : List ℕ) → length bytes ≡ w → ((i : ℕ) → get_or bytes i 0 < 256) → number_bytes w (number_of bytes) ≡ bytes
bytes_again zero [] long small = refl
bytes_again zero (b ∷ bytes) long small = absurd (omega (arith, long))
bytes_again (suc w) [] long small = absurd (omega (arith, long))
bytes_again (suc w) (b ∷ bytes) long small =
    let byte : b < 256 = small 0 in
    let low : (b + 256 * number_of bytes) % 256 ≡ b = omega (arith, byte) in
    let high : (b + 256 * number_of bytes) / 256 ≡ number_of bytes = omega (arith, byte) in
    λ i. low i ∷ (ap (number_bytes w) high ∙ bytes_again w bytes (omega (arith, long)) (λ k. small (suc k))) i

-- a number below another
below_it : (n m : ℕ) → n < m → pos n -ℤ pos m ≡ negsuc (m - 1 - n)
below_it n m h = omega (arith, ints, h)

twos_by : (b : Bool) (w n : ℕ) → n < 2 ^ (8 * w) → int_bytes w (if b then pos n else (pos n -ℤ pos (2 ^ (8 * w)))) ≡ number_bytes w n
twos_by true w n whole = refl
twos_by false w n whole =
    let top = 2 ^ (8 * w) in
    let back : top - 1 - (top - 1 - n) ≡ n = omega (arith, whole) in
    ap (int_bytes w) (below_it n top whole) ∙ ap (number_bytes w) back

-- the two's complement bytes of a signed number are the bytes of the unsigned number with the same bits
twos_again : (w n : ℕ) → n < 2 ^ (8 * w) → int_bytes w (twos_complement w n) ≡ number_bytes w n
twos_again w n whole = twos_by (nat_lt n (2 ^ (8 * w - 1))) w n whole

-- the bytes at an offset are those of the number there
pub number_again_at : (w : ℕ) (bytes : List ℕ) (place : ℕ) → ((i : ℕ) → get_or bytes i 0 < 256) → place + w ≤ length bytes
    → number_bytes w (number_at bytes place w) ≡ take w (drop place bytes)
unfolding number_at
number_again_at w bytes place small inside =
    bytes_again w (take w (drop place bytes)) (omega (arith, length-take w (drop place bytes), length-drop place bytes, inside))
    (bytes_take w (drop place bytes) (λ k. rw (get_or-drop place bytes k 0) (small (place + k))))

pub int_again_at : (w : ℕ) (signed : Bool) (bytes : List ℕ) (place : ℕ) → 1 ≤ w → ((i : ℕ) → get_or bytes i 0 < 256) → place + w ≤ length bytes
    → int_bytes w (int_of bytes place w signed) ≡ take w (drop place bytes)
unfolding signed_at
int_again_at w false bytes place one small inside = number_again_at w bytes place small inside
int_again_at w true bytes place one small inside =
    let fits = int_fits w place false bytes one small inside in
    twos_again w (number_at bytes place w) (omega (arith, ints, fits.1)) ∙ number_again_at w bytes place small inside
