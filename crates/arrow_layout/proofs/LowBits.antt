-- The lowest 128 bits of a number, read and written as a number with a sign.
use Rattle.std.proofs.Common.{◌≡◌, ◌<◌, ◌-◌, ◌^◌, ℕ, pos, negsuc, Bool, true, false, refl, ap, sym, ◌∙◌, nat_lt, if◌then◌else◌, arith}
use Rattle.std.proofs.lemmas.Int.{ints, of_z-to_z}
use Rattle.std.specs.Prelude.{◌-ℤ◌}
use Rattle.std.specs.Int.{cast_signed, cast_unsigned, w128}
use Rattle.arrow_bits.specs.Numbers.{int_bytes, number_bytes, twos_complement}
use Rattle.arrow_bits.proofs.Reading.{signed_128}

-- a number that was read with a sign, without it
pub low_again : (n : ℕ) → n < 2 ^ 128 → cast_unsigned w128 (twos_complement 16 n) ≡ n
low_again n h = ap (cast_unsigned w128) (sym (signed_128 n h)) ∙ of_z-to_z w128 n h

-- its bytes, by cases of the sign
bytes_by : (b : Bool) (n : ℕ) → nat_lt n (2 ^ 127) ≡ b → n < 2 ^ 128 → int_bytes 16 (if b then pos n else (pos n -ℤ pos (2 ^ 128))) ≡ number_bytes 16 n
bytes_by true n e h = refl
bytes_by false n e h =
    let below : pos n -ℤ pos (2 ^ 128) ≡ negsuc (2 ^ 128 - 1 - n) = omega (arith, ints, h) in
    let back : 2 ^ 128 - 1 - (2 ^ 128 - 1 - n) ≡ n = omega (arith, h) in
    ap (int_bytes 16) below ∙ ap (number_bytes 16) back

-- the bytes of a number that was given a sign
pub low_bytes : (n : ℕ) → n < 2 ^ 128 → int_bytes 16 (cast_signed w128 n) ≡ number_bytes 16 n
low_bytes n h = ap (int_bytes 16) (signed_128 n h) ∙ bytes_by (nat_lt n (2 ^ 127)) n refl h
