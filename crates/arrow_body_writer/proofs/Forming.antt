-- The number of nodes below a field.
use Rattle.std.proofs.Common.{◌≡◌, ℕ, sym, subst, Option, None, Some}
use Rattle.arrow_types.specs.declared.field.Encoding.{Encoding}
use Rattle.arrow_body_reader.specs.Taken.{IfFlattened, flattened}
use Rattle.arrow_body_slots.specs.Tally.{capped}

-- the count of the nodes below a field, and what is known of them
pub record IsBelow (e : Option Encoding) (n below : ℕ) (P : Type 0) : Type 0 where
  pub count : below ≡ capped (flattened e n)
  pub known : IfFlattened e P

pub below_encoded : (e : Option Encoding) (x : Encoding) (n below : ℕ) (P : Type 0) → e ≡ Some x → below ≡ 0 → IsBelow e n below P
below_encoded e x n below P is nothing = subst (λ o. IsBelow o n below P) (sym is) (record { count = nothing; known = tt })

pub below_plain : (e : Option Encoding) (n below : ℕ) (P : Type 0) → e ≡ None → below ≡ capped n → P → IsBelow e n below P
below_plain e n below P is all known = subst (λ o. IsBelow o n below P) (sym is) (record { count = all; known = known })
