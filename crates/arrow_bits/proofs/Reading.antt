-- Numbers as byteorder reads them, and how large they are.
use Rattle.std.proofs.Common.{◌≡◌, ℕ, zero, suc, ◌+◌, ◌-◌, ◌^◌, ◌<◌, ◌≤◌, List, [], ◌∷◌, length, take, drop, get_or, refl, arith, w8, w16, w32, w64, subst, length-drop, length-take, drop-cons}
use Rattle.std.proofs.lemmas.List.{take_all, get_or-drop}
use Rattle.std.proofs.Math.Nat.{pow-suc}
use Rattle.std.proofs.lemmas.Int.{ints}
use mir.Val.{to_z}
use Rattle.std.specs.Int.{w128}
use Rattle.byteorder.specs.Endian.{little_from}
use Rattle.arrow_bits.specs.Numbers.{number_of, number_at, twos_complement}

-- byteorder's number of the n bytes from index i on
little_from_number : (i n : ℕ) (xs : List ℕ) → i + n ≤ length xs → little_from i n xs ≡ number_of (take n (drop i xs))
little_from_number i zero xs h = refl
little_from_number i (suc n) xs h =
    let rest = little_from_number (suc i) n xs (omega arith) in
    rw (drop-cons xs i 0 (omega arith), rest) refl

-- the same for a slice that begins at an offset
pub read_number : (width place : ℕ) (bytes : List ℕ) → place + width ≤ length bytes
    → little_from 0 width (take (length bytes - place) (drop place bytes)) ≡ number_at bytes place width
unfolding number_at
read_number width place bytes h =
    let whole = take_all (length bytes - place) (drop place bytes) (omega (arith, length-drop place bytes)) in
    rw whole (little_from_number 0 width (drop place bytes) (omega (arith, length-drop place bytes)))

-- a number of n bytes is below 256 ^ n
number_of-lt : (bytes : List ℕ) → ((i : ℕ) → get_or bytes i 0 < 256) → number_of bytes < 256 ^ length bytes
number_of-lt [] small = omega arith
number_of-lt (byte ∷ bytes) small =
    omega (arith, number_of-lt bytes (λ i. small (suc i)), small 0, pow-suc 256 (length bytes))

-- a number of one byte
pub read_byte : (place : ℕ) (bytes : List ℕ) → place < length bytes → get_or bytes place 0 ≡ number_at bytes place 1
unfolding number_at
read_byte place bytes h = rw (drop-cons bytes place 0 h) (omega arith)

-- the bits of a number of each width, read as signed
pub signed_8 : (n : ℕ) → n < 256 → to_z w8 n ≡ twos_complement 1 n
signed_8 n h = grind (arith, ints)

-- the same of two bytes
pub signed_16 : (n : ℕ) → n < 65536 → to_z w16 n ≡ twos_complement 2 n
signed_16 n h = grind (arith, ints)

-- the same of four bytes
pub signed_32 : (n : ℕ) → n < 4294967296 → to_z w32 n ≡ twos_complement 4 n
signed_32 n h = grind (arith, ints)

-- the same of eight bytes
pub signed_64 : (n : ℕ) → n < 18446744073709551616 → to_z w64 n ≡ twos_complement 8 n
signed_64 n h = grind (arith, ints)

-- the same of sixteen bytes
pub signed_128 : (n : ℕ) → n < 340282366920938463463374607431768211456 → to_z w128 n ≡ twos_complement 16 n
signed_128 n h = grind (arith, ints)

-- a part of a list of bytes consists of bytes
pub bytes_take : (n : ℕ) (xs : List ℕ) → ((i : ℕ) → get_or xs i 0 < 256) → (i : ℕ) → get_or (take n xs) i 0 < 256
bytes_take zero xs small i = omega arith
bytes_take (suc n) [] small i = omega arith
bytes_take (suc n) (x ∷ xs) small zero = small zero
bytes_take (suc n) (x ∷ xs) small (suc i) = bytes_take n xs (λ k. small (suc k)) i

-- so a number at an offset is bounded too
pub number_at-lt : (place width : ℕ) (bytes : List ℕ) → ((i : ℕ) → get_or bytes i 0 < 256) → place + width ≤ length bytes
    → number_at bytes place width < 256 ^ width
unfolding number_at
number_at-lt place width bytes small h =
    let part = take width (drop place bytes) in
    let long : length part ≡ width = omega (arith, length-take width (drop place bytes), length-drop place bytes) in
    let below : number_of part < 256 ^ length part = number_of-lt part (bytes_take width (drop place bytes) (λ i. rw (get_or-drop place bytes i 0) (small (place + i)))) in
    subst (λ k. number_of part < 256 ^ k) long below
