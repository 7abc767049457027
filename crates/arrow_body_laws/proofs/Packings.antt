-- There is one list of packed bytes.
use Rattle.std.proofs.Common.{◌≡◌, ℕ, zero, suc, ◌+◌, ◌*◌, ◌/◌, ◌%◌, ◌<◌, ◌≤◌, Bool, true, false, List, length, get_or, refl, ◌∙◌, sym, arith}
use Rattle.std.specs.Prelude.{◌==◌, nat_lt}
use Rattle.std.specs.Int.{bit_at, div_ceil}
use Rattle.std.proofs.lemmas.Grind.{same_number_lists}
use Rattle.std.proofs.lemmas.Bool.{ltb-true, ltb-false}
use Rattle.std.proofs.lemmas.Nat.Bits.{same_from_bits_below, bit_at-lt}
use Rattle.arrow_bits.specs.Bitmap.{bit_of}
use Rattle.arrow_body_laws.specs.Packed.{packed}
use Rattle.arrow_body_laws.proofs.Bits.{packed_bit, packed_few, packed_spare, packed_small}

-- a bit is 0 or 1
bit_is : (a b : ℕ) → a < 2 → b < 2 → (a == 1) ≡ (b == 1) → a ≡ b
bit_is zero zero h k e = refl
bit_is zero (suc zero) h k e = cc
bit_is (suc zero) zero h k e = cc
bit_is (suc zero) (suc zero) h k e = refl
bit_is (suc (suc a)) b h k e = absurd (omega (arith, h))
bit_is zero (suc (suc b)) h k e = absurd (omega (arith, k))
bit_is (suc zero) (suc (suc b)) h k e = absurd (omega (arith, k))

-- the bytes hold these bits, and none after them
pub record HoldBits (bits : List Bool) (bytes : List ℕ) : Type 0 where
  pub few : length bytes ≡ div_ceil (length bits) 8
  pub same : (j : ℕ) → j < length bits → bit_of bytes j ≡ get_or bits j false
  pub spare : (j : ℕ) → length bits ≤ j → bit_of bytes j ≡ false

-- so their bits are those of the packed bytes
same_bit : (b : Bool) (bits : List Bool) (bytes : List ℕ) (j : ℕ) → nat_lt j (length bits) ≡ b → HoldBits bits bytes → bit_of bytes j ≡ bit_of (packed bits) j
same_bit true bits bytes j e hold = let h = ltb-true j (length bits) e in hold.same j h ∙ sym (packed_bit bits j h)
same_bit false bits bytes j e hold = let h = ltb-false j (length bits) e in hold.spare j h ∙ sym (packed_spare bits j h)

same_place : (bytes others : List ℕ) (k i : ℕ) → i < 8 → bit_of bytes (8 * k + i) ≡ bit_of others (8 * k + i) → bit_at (get_or bytes k 0) i ≡ bit_at (get_or others k 0) i
unfolding bit_of
same_place bytes others k i h e =
    let place : (8 * k + i) / 8 ≡ k = omega (arith, h) in
    let inside : (8 * k + i) % 8 ≡ i = omega (arith, h) in
    bit_is (bit_at (get_or bytes k 0) i) (bit_at (get_or others k 0) i) (bit_at-lt (get_or bytes k 0) i) (bit_at-lt (get_or others k 0) i)
    ((λ n. bit_at (get_or bytes (sym place n) 0) (sym inside n) == 1) ∙ e ∙ (λ n. bit_at (get_or others (place n) 0) (inside n) == 1))

-- bytes that hold these bits and nothing else are the packed ones
pub packed_is : (bits : List Bool) (bytes : List ℕ) → ((k : ℕ) → get_or bytes k 0 < 256) → HoldBits bits bytes → bytes ≡ packed bits
packed_is bits bytes small hold =
    same_number_lists bytes (packed bits) (hold.few ∙ sym (packed_few bits))
    (λ k h. same_from_bits_below 8 (get_or bytes k 0) (get_or (packed bits) k 0) (omega (arith, small k)) (omega (arith, packed_small bits k))
    (λ i j. same_place bytes (packed bits) k i j (same_bit (nat_lt (8 * k + i) (length bits)) bits bytes (8 * k + i) refl hold)))
