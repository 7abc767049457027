-- One more bit in packed bytes.
use Rattle.std.proofs.Common.{◌≡◌, ℕ, zero, suc, ◌+◌, ◌<◌, Bool, List, [], ◌∷◌, ◌++◌, length, map, refl, ap, ◌∙◌, sym, arith, inl, inr}
use Rattle.std.specs.List.{range_with_len}
use Rattle.std.specs.Int.{div_ceil}
use Rattle.arrow_bits.specs.Bitmap.{bit_of, bits_of, IsPacked, PutsBit}
use Rattle.arrow_bits.proofs.Listed.{length_bits, more_bits}
use Rattle.arrow_bits.proofs.OneBit.{past_end}

-- two functions that agree on a range give the same list
same_on_range : (f g : ℕ → Bool) (a n : ℕ) → ((j : ℕ) → j < a + n → f j ≡ g j) → map f (range_with_len a n) ≡ map g (range_with_len a n)
same_on_range f g a zero same = refl
same_on_range f g a (suc n) same =
    ap (λ b. b ∷ map f (range_with_len (a + 1) n)) (same a (omega arith))
    ∙ ap (λ bs. g a ∷ bs) (same_on_range f g (a + 1) n (λ j h. same j (omega (arith, h))))

-- the new bytes are packed, and hold one more bit
pub record IsGrown (len : ℕ) (old new : List ℕ) (bit : Bool) : Type 0 where
  pub packed : IsPacked (bits_of (len + 1) new) new
  pub more : bits_of (len + 1) new ≡ bits_of len old ++ bit ∷ []

-- a bit put after them all
pub grown : (len : ℕ) (old new : List ℕ) (bit : Bool) → IsPacked (bits_of len old) old → PutsBit len bit old new
    → IsGrown len old new bit
grown len old new bit packed puts =
    let was = length_bits len old in
    let long = length_bits (len + 1) new in
    let had : length old ≡ div_ceil len 8 = packed.few ∙ ap (λ n. div_ceil n 8) was in
    let few : length new ≡ div_ceil (len + 1) 8 = elim puts.few [
      | inl same ↦ omega (arith, had, same, puts.long)
      | inr one_more ↦ omega (arith, one_more)
    ] in
    record {
      packed = record {
        few = few ∙ ap (λ n. div_ceil n 8) (sym long);
        same = ap (λ n. bits_of n new) long;
        spare = λ j h. puts.same j (λ e. omega (arith, h, long, e)) ∙ packed.spare j (omega (arith, h, long, was));
      };
      more =
          more_bits len new
          ∙ ap (λ bs. bs ++ bit_of new len ∷ []) (same_on_range (bit_of new) (bit_of old) 0 len (λ j h. puts.same j (λ e. omega (arith, h, e))))
          ∙ ap (λ b. bits_of len old ++ b ∷ []) puts.put;
    }

-- no bytes hold no bits
pub packed_empty : (bytes : List ℕ) → bytes ≡ [] → IsPacked (bits_of 0 bytes) bytes
packed_empty bytes empty = record { few = ap length empty; same = refl; spare = λ j h. past_end bytes j (rw empty (omega arith)) }
