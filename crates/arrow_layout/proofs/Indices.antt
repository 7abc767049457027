-- Indices that are compared without a sign, with all slots treated as valid.
use Rattle.std.proofs.Common.{◌≡◌, ◌↔◌, ℕ, ◌*◌, ◌^◌, ◌<◌, ◌≤◌, List, [], Bool, true, false, length, get_or, refl, sym, subst, arith}
use Rattle.std.specs.Prelude.{pos, if◌then◌else◌}
use Rattle.std.proofs.lemmas.Nat.{column_fits}
use Rattle.arrow_bits.specs.Numbers.{number_at, signed_at, int_of, twos_complement}
use Rattle.arrow_bits.specs.AtMost.{AreAtMost}
use Rattle.arrow_bits.proofs.Reading.{number_at-lt}
use Rattle.arrow_layout.specs.Slots.{IsIndex, AreIndices}

-- the number of a slot, read with a sign or without one
number_read : (bytes : List ℕ) (place width : ℕ) (signed : Bool)
    → (if signed then twos_complement width (number_at bytes place width) else pos (number_at bytes place width)) ≡ int_of bytes place width signed
unfolding signed_at
number_read bytes place width true = refl
number_read bytes place width false = refl

-- if the numbers up to the top are the indices, slots whose numbers are at most the top have indices
pub indices_at_most : (bytes : List ℕ) (len width count top : ℕ) (signed : Bool) → ((i : ℕ) → get_or bytes i 0 < 256) → width * len ≤ length bytes
    → ((n : ℕ) → n < 256 ^ width → (n ≤ top) ↔ IsIndex count (if signed then twos_complement width n else pos n))
    → AreAtMost width bytes 0 len top ↔ AreIndices len width signed [] bytes count
indices_at_most bytes len width count top signed small inside parts =
    let fits : (j : ℕ) → j < len → number_at bytes (width * j) width < 256 ^ width =
    λ j h. number_at-lt (width * j) width bytes small (omega (arith, inside, column_fits width j width len h (omega arith))) in (
      (λ all j h valid.
          subst (IsIndex count) (number_read bytes (width * j) width signed) ((parts (number_at bytes (width * j) width) (fits j h)).0 (all j (omega arith) h))),
      (λ are j from h.
          (parts (number_at bytes (width * j) width) (fits j h)).1 (subst (IsIndex count) (sym (number_read bytes (width * j) width signed)) (are j h refl))),
    )
