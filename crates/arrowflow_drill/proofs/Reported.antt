-- Faults that are reported as others.
use Rattle.std.proofs.Common.{◌≡◌, Result, Ok, Err, refl, sym, ap, ◌∙◌, subst, is_ok, true≢false}
use Rattle.std.specs.Result.{MatchResult, IsErrAnd}

-- a call that ended well, given that its fault would have been reported as another one
pub ended_well : {E D : Type 0} (r : Result (Unit {0}) E) (s : Result (Unit {0}) D) → is_ok s ≡ is_ok r → s ≡ Ok tt → r ≡ Ok tt
ended_well (Ok tt) s same is = refl
ended_well (Err e) s same is = absurd (true≢false (sym (ap is_ok is) ∙ same))

-- a fault is the one as which another was reported
pub reported_as : {E D : Type 0} (r : Result (Unit {0}) E) (s : Result (Unit {0}) D) (f : D) (P : E → D → Type 0) → MatchResult r (λ x. s ≡ Ok x) (λ e. IsErrAnd s (P e)) → s ≡ Err f → (e : E) × (r ≡ Err e) × P e f
reported_as (Ok x) s f P cases is = absurd (cc)
reported_as (Err e) s f P cases is = (e, refl, subst (λ t. IsErrAnd t (P e)) is cases)
