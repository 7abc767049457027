-- A signed number of 4 or 8 bytes is one of 32 or 64 bits.
use Rattle.std.proofs.Common.{◌≡◌, ℕ, ◌+◌, ◌<◌, ◌≤◌, ℤ, pos, negsuc, true, List, length, get_or, sym, subst, arith}
use Rattle.std.proofs.lemmas.Int.{ints}
use Rattle.std.specs.Prelude.{FitsSigned}
use Rattle.std.specs.Int.{w32, w64}
use Rattle.arrow_bits.specs.Numbers.{FitsInt, int_of}
use Rattle.arrow_bits.proofs.Ranged.{int_fits}

-- a number in the range of four bytes
in_32 : (z : ℤ) → FitsInt 4 true z → FitsSigned w32 z
in_32 (pos n) h = record { sfits = omega (arith, ints, h.1) }
in_32 (negsuc n) h = record { sfits = omega (arith, ints, h.0) }

-- a number in the range of eight bytes
in_64 : (z : ℤ) → FitsInt 8 true z → FitsSigned w64 z
in_64 (pos n) h = record { sfits = omega (arith, ints, h.1) }
in_64 (negsuc n) h = record { sfits = omega (arith, ints, h.0) }

-- the number of four bytes at an offset
pub fits_32 : (z : ℤ) (bytes : List ℕ) (place : ℕ) → ((i : ℕ) → get_or bytes i 0 < 256) → place + 4 ≤ length bytes → z ≡ int_of bytes place 4 true → FitsSigned w32 z
fits_32 z bytes place small inside is = in_32 z (subst (FitsInt 4 true) (sym is) (int_fits 4 place true bytes (omega arith) small inside))

-- the number of eight bytes at an offset
pub fits_64 : (z : ℤ) (bytes : List ℕ) (place : ℕ) → ((i : ℕ) → get_or bytes i 0 < 256) → place + 8 ≤ length bytes → z ≡ int_of bytes place 8 true → FitsSigned w64 z
fits_64 z bytes place small inside is = in_64 z (subst (FitsInt 8 true) (sym is) (int_fits 8 place true bytes (omega arith) small inside))
