-- A number of 256 bits is below 0 if its upper half is.
use Rattle.std.proofs.Common.{◌≡◌, ◌<◌, ◌+◌, ◌-◌, ◌*◌, ◌^◌, ℕ, ℤ, suc, pos, negsuc, le-ltb, sym, ap, ◌∙◌, arith}
use Rattle.std.proofs.lemmas.Int.{ints}
use Rattle.std.specs.Int.{is_negative}
use Rattle.std.specs.Prelude.{◌+ℤ◌, ◌*ℤ◌}

pub half_sign : (high : ℤ) (low : ℕ) → low < 2 ^ 128 → is_negative ((high *ℤ pos (2 ^ 128)) +ℤ pos low) ≡ is_negative high
half_sign (pos n) low h = le-ltb (n * 2 ^ 128 + low) 0 (omega arith) ∙ sym (le-ltb n 0 (omega arith))
half_sign (negsuc n) low h =
    let below : (negsuc n *ℤ pos (2 ^ 128)) +ℤ pos low ≡ negsuc (suc n * 2 ^ 128 - suc low) = omega (arith, ints, h) in
    ap is_negative below
