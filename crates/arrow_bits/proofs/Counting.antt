-- The set bits of bytes, counted in one byte or in eight at once.
use Rattle.std.proofs.Common.{◌≡◌, ℕ, zero, suc, ◌+◌, ◌*◌, ◌/◌, ◌%◌, ◌^◌, ◌<◌, ◌≤◌, cond, List, length, take, drop, get_or, refl, ap, ◌∙◌, sym, arith, add-one, add-zero, drop-cons}
use Rattle.std.specs.Prelude.{count_ones, ◌==◌}
use Rattle.std.specs.Int.{bit_at}
use Rattle.std.proofs.lemmas.Nat.{mod-pow-add, one_shl, ones_cat, mod_below, pow_pos}
use Rattle.std.proofs.lemmas.Nat.Bits.{bit_at-lt}
use Rattle.arrow_bits.specs.Numbers.{number_of, number_at}
use Rattle.arrow_bits.specs.Bitmap.{bit_of, ones_of}
use Rattle.arrow_bits.proofs.Listed.{more_ones}

-- a digit of 0 or 1 counts as itself
ones_digit : (d : ℕ) → d < 2 → count_ones d ≡ cond (d == 1) 1 0
unfolding lib.Count.ones
ones_digit zero h = refl
ones_digit (suc zero) h = refl
ones_digit (suc (suc d)) h = absurd (omega arith)

-- one more of a byte's lowest bits
ones_low : (byte r : ℕ) → count_ones (byte % 2 ^ (r + 1)) ≡ count_ones (byte % 2 ^ r) + cond (bit_at byte r == 1) 1 0
ones_low byte r =
    let digit = byte / 2 ^ r % 2 in
    let low = byte % 2 ^ r in
    let e : r + 1 ≡ 1 + r = omega arith in
    let parts : byte % 2 ^ (1 + r) ≡ digit * 2 ^ r + low = mod-pow-add byte 1 r in
    let both = ones_cat r digit low (mod_below byte (2 ^ r) (pow_pos r)) in
    let one = ones_digit digit (bit_at-lt byte r) in
    rw (e, parts, both, one) (omega arith)

-- a bit of a byte
pub bit_in_byte : (bytes : List ℕ) (i r : ℕ) → r < 8 → bit_of bytes (8 * i + r) ≡ (bit_at (get_or bytes i 0) r == 1)
unfolding bit_of
bit_in_byte bytes i r h =
    let byte : (8 * i + r) / 8 ≡ i = omega arith in
    let place : (8 * i + r) % 8 ≡ r = omega arith in
    rw (byte, place) refl

-- the bits of a byte, as far as they are counted
pub ones_part : (bytes : List ℕ) (i r : ℕ) → r ≤ 8 → ones_of (8 * i + r) bytes ≡ ones_of (8 * i) bytes + count_ones (get_or bytes i 0 % 2 ^ r)
ones_part bytes i zero h =
    let none : get_or bytes i 0 % 2 ^ 0 ≡ 0 = omega arith in
    rw (add-zero (8 * i), none, ones_digit 0 (omega arith)) (sym (add-zero (ones_of (8 * i) bytes)))
ones_part bytes i (suc r) h =
    let before = ones_part bytes i r (omega arith) in
    let more = more_ones (8 * i + r) bytes in
    let low = ones_low (get_or bytes i 0) r in
    let flag = ap (λ t. cond {A = ℕ} t 1 0) (bit_in_byte bytes i r (omega arith)) in
    let next : 8 * i + suc r ≡ 8 * i + r + 1 = omega arith in
    rw (next, sym (add-one r)) (omega (arith, before, more, low, flag))

-- the last byte, some of whose bits are left out
pub ones_rest : (bytes : List ℕ) (len : ℕ)
    → ones_of len bytes ≡ ones_of (8 * (len / 8)) bytes + count_ones (get_or bytes (len / 8) 0 % (1 * 2 ^ (len % 8) % 256))
ones_rest bytes len =
    let power : 1 * 2 ^ (len % 8) % 256 ≡ 2 ^ (len % 8) = one_shl (len % 8) 8 (omega arith) in
    let part = ones_part bytes (len / 8) (len % 8) (omega arith) in
    let whole : 8 * (len / 8) + len % 8 ≡ len = omega arith in
    rw power (ap (λ n. ones_of n bytes) (sym whole) ∙ part)

-- a full byte
pub ones_byte : (bytes : List ℕ) (i : ℕ) → get_or bytes i 0 < 256 → ones_of (8 * (i + 1)) bytes ≡ ones_of (8 * i) bytes + count_ones (get_or bytes i 0)
ones_byte bytes i small =
    let whole : get_or bytes i 0 % 2 ^ 8 ≡ get_or bytes i 0 = omega (arith, small) in
    let next : 8 * (i + 1) ≡ 8 * i + 8 = omega arith in
    ap (λ n. ones_of n bytes) next ∙ ones_part bytes i 8 (omega arith) ∙ ap (λ b. ones_of (8 * i) bytes + count_ones b) whole

-- some bytes, by the number that they form
ones_number : (bytes : List ℕ) (n i : ℕ) → ((k : ℕ) → get_or bytes k 0 < 256) → i + n ≤ length bytes
    → ones_of (8 * (i + n)) bytes ≡ ones_of (8 * i) bytes + count_ones (number_of (take n (drop i bytes)))
ones_number bytes zero i small h = rw (add-zero i, ones_digit 0 (omega arith)) (sym (add-zero (ones_of (8 * i) bytes)))
ones_number bytes (suc n) i small h =
    let byte = get_or bytes i 0 in
    let rest = number_of (take n (drop (suc i) bytes)) in
    let first = ones_byte bytes i (small i) in
    let others = ones_number bytes n (suc i) small (omega arith) in
    let here : i + 1 ≡ suc i = omega arith in
    let there : i + suc n ≡ suc i + n = omega arith in
    let number : number_of (take (suc n) (drop i bytes)) ≡ rest * 2 ^ 8 + byte = rw (drop-cons bytes i 0 (omega arith)) (omega arith) in
    let apart = ones_cat 8 rest byte (small i) in
    rw (there, number, apart, others, sym here, first) (omega arith)

-- eight bytes
pub ones_word : (bytes : List ℕ) (i : ℕ) → ((k : ℕ) → get_or bytes k 0 < 256) → 8 * i + 8 ≤ length bytes
    → ones_of (64 * (i + 1)) bytes ≡ ones_of (64 * i) bytes + count_ones (number_at bytes (8 * i) 8)
unfolding number_at
ones_word bytes i small h =
    let next : 64 * (i + 1) ≡ 8 * (8 * i + 8) = omega arith in
    let here : 64 * i ≡ 8 * (8 * i) = omega arith in
    rw (next, here) (ones_number bytes 8 (8 * i) small h)
