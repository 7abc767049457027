-- An offset in a part of the bytes is an offset in all of them.
use Rattle.std.proofs.Common.{◌≡◌, ℕ, ◌+◌, ◌-◌, ◌≤◌, List, take, drop, refl, arith}
use Rattle.std.proofs.lemmas.List.{drop-drop, drop-take, take-take}
use Rattle.arrow_bits.specs.Numbers.{number_at}

-- a number in the first n bytes from an offset on
pub number_in_part : (bytes : List ℕ) (from n place width : ℕ) → place + width ≤ n
    → number_at (take n (drop from bytes)) place width ≡ number_at bytes (from + place) width
unfolding number_at
number_in_part bytes from n place width h =
    let rest = n - place in
    let e : n ≡ place + rest = omega (arith, h) in
    let cut = drop-take place rest (drop from bytes) in
    let short = take-take width rest (drop place (drop from bytes)) (omega (arith, h)) in
    rw (e, cut, short, drop-drop place from bytes) refl
