-- One bit put after others.
use Rattle.std.proofs.Common.{◌≡◌, ◌≢◌, ℕ, ◌*◌, ◌/◌, ◌%◌, ◌^◌, ◌<◌, ◌≤◌, Bool, true, false, cond, List, [], ◌∷◌, ◌++◌, length, get_or, set, refl, ◌∙◌, sym, subst, arith, w8, inl, inr, bit_or, bit_and, length-set, length-append}
use Rattle.std.specs.Prelude.{◌==◌}
use Rattle.std.specs.Int.{bit_at, bit_not}
use Rattle.std.proofs.lemmas.Bool.{cases_eq, cases_lt}
use Rattle.std.proofs.lemmas.List.{get_or_append_left, get_or-set_same, get_or-set_other}
use Rattle.std.proofs.Math.ListN.{get_or-eq_default}
use Rattle.std.proofs.Math.Seq.{get_or-append_seam}
use Rattle.std.proofs.lemmas.Nat.Bits.{bit_at-zero, bit_at-pow_other, bit_at_set_same, bit_at_set_other, bit_at_clear_same, bit_at_clear_other}
use Rattle.arrow_bits.specs.Bitmap.{bit_of, PutsBit}

-- a byte of one bit has it as its least significant bit
flag_first : (bit : Bool) → (bit_at (cond bit 1 0) 0 == 1) ≡ bit
flag_first true = refl
flag_first false = refl

-- its other bits are 0
flag_other : (bit : Bool) (k : ℕ) → k ≢ 0 → bit_at (cond bit 1 0) k ≡ 0
flag_other true k apart = bit_at-pow_other 0 k apart
flag_other false k apart = bit_at-zero k

-- a bit of bytes past the end is not set
pub past_end : (bytes : List ℕ) (j : ℕ) → length bytes ≤ j / 8 → bit_of bytes j ≡ false
unfolding bit_of
past_end bytes j h = rw (get_or-eq_default bytes 0 h, bit_at-zero (j % 8)) refl

-- one more byte
pub puts_byte : (at : ℕ) (bit : Bool) (bytes : List ℕ) → at ≤ 8 * length bytes → at / 8 ≡ length bytes
    → PutsBit at bit bytes (bytes ++ cond bit 1 0 ∷ [])
unfolding bit_of
puts_byte at bit bytes inside end =
    let first : at % 8 ≡ 0 = omega (arith, inside, end) in
    let byte : ℕ = cond bit 1 0 in
    let long = length-append bytes (byte ∷ []) in
    let at_byte : get_or (bytes ++ byte ∷ []) (at / 8) 0 ≡ byte =
    subst (λ k. get_or (bytes ++ byte ∷ []) k 0 ≡ byte) (sym end) (get_or-append_seam bytes byte [] 0) in
    record {
      put = rw (at_byte, first) (flag_first bit);
      same = λ j apart. elim (cases_lt j at) [
        | inl before ↦ rw (get_or_append_left bytes (byte ∷ []) 0 (j / 8) (omega (arith, before, end, first))) refl
        | inr after ↦
            let unset : bit_of (bytes ++ byte ∷ []) j ≡ false = elim (cases_eq (j / 8) (at / 8)) [
              | inl here ↦ rw (here, at_byte, flag_other bit (j % 8) (λ e. apart (omega (arith, e, first, here)))) refl
              | inr elsewhere ↦ past_end (bytes ++ byte ∷ []) j (omega (arith, after, end, first, elsewhere, long))
            ] in
            unset ∙ sym (past_end bytes j (omega (arith, after, end)))
      ];
      long = omega (arith, inside, end, long);
      kept = omega (arith, long);
      few = inr (omega (arith, end, long));
    }

-- the byte with the bit is another one, and its other bits are unchanged
puts_in : (at : ℕ) (bit : Bool) (bytes : List ℕ) (changed : ℕ) → at ≤ 8 * length bytes → at / 8 ≢ length bytes
    → (bit_at changed (at % 8) == 1) ≡ bit
    → ((k : ℕ) → k < 8 → k ≢ at % 8 → bit_at changed k ≡ bit_at (get_or bytes (at / 8) 0) k)
    → PutsBit at bit bytes (set bytes (at / 8) changed)
unfolding bit_of
puts_in at bit bytes changed le apart here others =
    let inside : at / 8 < length bytes = omega (arith, le, apart) in
    let long = length-set bytes (at / 8) changed in
    let at_byte : get_or (set bytes (at / 8) changed) (at / 8) 0 ≡ changed = get_or-set_same bytes (at / 8) changed 0 inside in
    record {
      put = rw at_byte here;
      same = λ j other. elim (cases_eq (j / 8) (at / 8)) [
        | inl e ↦ rw (e, at_byte, others (j % 8) (omega arith) (λ f. other (omega (arith, e, f)))) refl
        | inr elsewhere ↦ rw (get_or-set_other bytes (at / 8) (j / 8) changed 0 elsewhere) refl
      ];
      long = omega (arith, inside, long);
      kept = omega (arith, long);
      few = inl long;
    }

-- the bit is set
pub puts_set : (at : ℕ) (bytes : List ℕ) → at ≤ 8 * length bytes → at / 8 ≢ length bytes
    → PutsBit at true bytes (set bytes (at / 8) (bit_or (get_or bytes (at / 8) 0) (1 * 2 ^ (at % 8) % 2 ^ 8)))
puts_set at bytes le apart =
    let byte = get_or bytes (at / 8) 0 in
    puts_in at true bytes (bit_or byte (1 * 2 ^ (at % 8) % 2 ^ 8)) le apart
    (rw (bit_at_set_same w8 byte (at % 8) (omega arith)) refl)
    (λ k h other. bit_at_set_other w8 byte (at % 8) (omega arith) k other)

-- the bit is cleared
pub puts_clear : (at : ℕ) (bytes : List ℕ) → at ≤ 8 * length bytes → at / 8 ≢ length bytes
    → PutsBit at false bytes (set bytes (at / 8) (bit_and (get_or bytes (at / 8) 0) (bit_not w8 (1 * 2 ^ (at % 8) % 2 ^ 8))))
puts_clear at bytes le apart =
    let byte = get_or bytes (at / 8) 0 in
    puts_in at false bytes (bit_and byte (bit_not w8 (1 * 2 ^ (at % 8) % 2 ^ 8))) le apart
    (rw (bit_at_clear_same w8 byte (at % 8) (omega arith)) refl)
    (λ k h other. bit_at_clear_other w8 byte (at % 8) (omega arith) k h other)
