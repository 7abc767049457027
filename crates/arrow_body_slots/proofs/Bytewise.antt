-- Eight more bits at once, packed.
use Rattle.std.proofs.Common.{◌≡◌, ℕ, zero, suc, ◌+◌, ◌-◌, ◌*◌, ◌/◌, ◌%◌, ◌^◌, ◌<◌, Bool, true, false, cond, List, [], ◌∷◌, ◌++◌, length, take, drop, get_or, refl, ap, ◌∙◌, sym, subst, arith, append_assoc, length-append}
use Rattle.std.specs.Prelude.{◌==◌}
use Rattle.std.specs.Int.{bit_at}
use Rattle.std.proofs.lemmas.List.{length-take, length-drop, take-append-drop}
use Rattle.std.proofs.lemmas.List.FromFn.{get_or-map-range_with_len, length-map-range_with_len}
use Rattle.std.proofs.lemmas.Nat.Bits.{bit_at-zero, bit_at_lowest, bit_at-suc, bit_at-lt, same_from_bits_below}
use Rattle.std.proofs.Math.Nat.{mul_assoc, mul_comm, pow-suc}
use Rattle.arrow_bits.specs.Bitmap.{bit_of}
use Rattle.arrow_bits.proofs.Counting.{bit_in_byte}
use Rattle.arrow_body_laws.specs.Packed.{number_of_bits, packed}
use Rattle.arrow_body_slots.specs.Marks.{bits_from}
use Rattle.arrow_body_slots.specs.Packing.{IsPacking}
use Rattle.arrow_body_slots.proofs.Packs.{below_next, packed_more}

-- the product with twice a number
twice : (p n : ℕ) → 2 * p * n ≡ 2 * (p * n)
twice p n = mul_assoc 2 p n

-- bits that follow others: their number times the weight after the others is added
number_both : (front bs : List Bool) → number_of_bits (front ++ bs) ≡ number_of_bits front + 2 ^ length front * number_of_bits bs
number_both [] bs = omega arith
number_both (b ∷ front) bs =
    let n = number_of_bits bs in
    let weight : 2 ^ suc (length front) * n ≡ 2 * (2 ^ length front * n) = ap (λ p. p * n) (pow-suc 2 (length front) ∙ mul_comm (2 ^ length front) 2) ∙ twice (2 ^ length front) n in
    omega (arith, number_both front bs, weight)

-- the lowest bit of a number of bits, and the others
lowest : (b : Bool) (n : ℕ) → (cond b 1 0 + 2 * n) % 2 ≡ cond b 1 0
lowest true n = omega arith
lowest false n = omega arith

others : (b : Bool) (n : ℕ) → (cond b 1 0 + 2 * n) / 2 ≡ n
others true n = omega arith
others false n = omega arith

-- a bit of a number of bits
bit_number : (bits : List Bool) (i : ℕ) → bit_at (number_of_bits bits) i ≡ cond (get_or bits i false) 1 0
bit_number [] i = bit_at-zero i
bit_number (b ∷ bits) zero = bit_at_lowest (cond b 1 0 + 2 * number_of_bits bits) ∙ lowest b (number_of_bits bits)
bit_number (b ∷ bits) (suc i) =
    bit_at-suc (cond b 1 0 + 2 * number_of_bits bits) i ∙ ap (λ n. bit_at n i) (others b (number_of_bits bits)) ∙ bit_number bits i

-- a bit is 1 if it is set
digit : (d : ℕ) → d < 2 → ◌≡◌ {A = ℕ} (cond (d == 1) 1 0) d
digit zero h = refl
digit (suc zero) h = refl
digit (suc (suc d)) h = absurd (omega (arith, h))

-- the bits of a byte make it
pub byte_bits : (bytes : List ℕ) (i : ℕ) → get_or bytes i 0 < 256 → (length (bits_from bytes (8 * i) (8 * (i + 1))) ≡ 8) × (number_of_bits (bits_from bytes (8 * i) (8 * (i + 1))) ≡ get_or bytes i 0)
byte_bits bytes i small =
    let bits = bits_from bytes (8 * i) (8 * (i + 1)) in
    let eight : 8 * (i + 1) - 8 * i ≡ 8 = omega arith in
    let long : length bits ≡ 8 = length-map-range_with_len (bit_of bytes) (8 * i) (8 * (i + 1) - 8 * i) ∙ eight in
    let few : number_of_bits bits < 2 ^ 8 = subst (λ n. number_of_bits bits < 2 ^ n) long (below_next bits) in
    let each : (k : ℕ) → k < 8 → bit_at (number_of_bits bits) k ≡ bit_at (get_or bytes i 0) k = λ k h.
    bit_number bits k ∙ ap (λ b. cond {A = ℕ} b 1 0) (get_or-map-range_with_len (bit_of bytes) (8 * i) (8 * (i + 1) - 8 * i) k (8 * i + k) false (omega (arith, h, eight)) refl ∙ bit_in_byte bytes i k h)
    ∙ digit (bit_at (get_or bytes i 0) k) (bit_at-lt (get_or bytes i 0) k) in
    (long, same_from_bits_below 8 (number_of_bits bits) (get_or bytes i 0) few (omega (arith, small)) each)

-- eight more bits: one byte becomes full, and as many bits remain as before
pub eight_more : (before : List ℕ) (was more : List Bool) (byte weight bits all : ℕ) (items : List ℕ) → length more ≡ 8 → number_of_bits more ≡ bits → all ≡ byte + bits * weight
    → IsPacking before was byte weight items → IsPacking before (was ++ more) (all / 256) weight (items ++ all % 256 ∷ [])
eight_more before was more byte weight bits all items eight is sum p =
    let both = p.rest ++ more in
    let full = take 8 both in
    let left = drop 8 both in
    let long : length both ≡ length p.rest + 8 = length-append p.rest more ∙ ap (λ n. length p.rest + n) eight in
    let taken : length full ≡ 8 = omega (arith, length-take 8 both, long) in
    let kept : length left ≡ length p.rest = omega (arith, length-drop 8 both, long) in
    let joined : full ++ left ≡ both = take-append-drop 8 both in
    let product : bits * weight ≡ 2 ^ length p.rest * number_of_bits more = mul_comm bits weight ∙ (λ i. p.next i * sym is i) in
    let number : all ≡ number_of_bits both = omega (arith, sum, p.kept, product, number_both p.rest more) in
    let parts : number_of_bits both ≡ number_of_bits full + 2 ^ length full * number_of_bits left = ap number_of_bits (sym joined) ∙ number_both full left in
    let shift : 2 ^ length full * number_of_bits left ≡ 256 * number_of_bits left = ap (λ n. 2 ^ n * number_of_bits left) taken in
    let few : number_of_bits full < 256 = subst (λ n. number_of_bits full < 2 ^ n) taken (below_next full) in
    let low : all % 256 ≡ number_of_bits full = omega (arith, number, parts, shift, few) in
    let high : all / 256 ≡ number_of_bits left = omega (arith, number, parts, shift, few) in
    record {
      whole = p.whole ++ full;
      rest = left;
      count = p.count + 1;
      split = ap (λ bs. bs ++ more) p.split ∙ append_assoc p.whole p.rest more ∙ ap (λ bs. p.whole ++ bs) (sym joined) ∙ sym (append_assoc p.whole full left);
      full = length-append p.whole full ∙ omega (arith, p.full, taken);
      few = omega (arith, kept, p.few);
      kept = high;
      next = p.next ∙ ap (λ n. 2 ^ n) (sym kept);
      written = (λ i. p.written i ++ low i ∷ []) ∙ append_assoc before (packed p.whole) (number_of_bits full ∷ [])
          ∙ ap (λ bytes. before ++ bytes) (sym (packed_more p.whole full p.count p.full (omega (arith, taken)) (omega (arith, taken))));
    }
