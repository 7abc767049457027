-- What the calls of a copier return, by what happened to the copier of the handle.
use Rattle.std.proofs.Common.{◌≡◌, ℕ, List, Option, Some, refl, sym, subst, inl}
use Rattle.arrowflow_copy.specs.CopierShown.{copier_view}
use Rattle.arrowflow_copy.specs.Pieces.{PutsEnd, PutsPiece, TakesWritten}
use Rattle.arrowflow_calls.specs.Copied.{EndsCopy, IsFresh, OpensCopier, PutsIf, TakesIf, copied_reported}
use Rattle.arrowflow_calls.specs.Terms.{AreLimits, numbers, options_by}
use Rattle.arrowflow_calls.specs.declared.pieces.CopiedC.{CopiedC}
use Rattle.arrowflow_calls.specs.declared.pieces.Copying.{Copying}
use Rattle.arrowflow_calls.specs.declared.terms.LimitsC.{LimitsC}
use Rattle.arrowflow_calls.specs.declared.terms.OptionsC.{OptionsC}

-- one was made
pub opens : (limits : LimitsC) (options : OptionsC) (c : Copying) (new : Option Copying) → AreLimits limits → IsFresh (numbers limits) (options_by options) (copier_view c.copier) → new ≡ Some c → OpensCopier limits options 0 new
opens limits options c new fine fresh is = inl (fine, inl (refl, (c, is, fresh)))

module _ (before after : Option Copying) (old new : Copying) (was : before ≡ Some old) (is : after ≡ Some new) where
  -- it was given a piece
  pub puts : (piece : List ℕ) (stated : CopiedC) → PutsPiece (copier_view old.copier) piece (copier_view new.copier) → stated ≡ copied_reported (copier_view new.copier) → PutsIf before piece stated after
  puts piece stated p q = subst (λ b. PutsIf b piece stated after) (sym was) (new, p, q, is)

  -- its stream ended
  pub ends : (stated : CopiedC) → PutsEnd (copier_view old.copier) (copier_view new.copier) → stated ≡ copied_reported (copier_view new.copier) → EndsCopy before stated after
  ends stated p q = subst (λ b. EndsCopy b stated after) (sym was) (new, p, q, is)

  -- bytes were taken from it
  pub takes : (room : List ℕ) (n : ℕ) (room' : List ℕ) → TakesWritten (copier_view old.copier) room n (copier_view new.copier) room' → TakesIf before room n after room'
  takes room n room' t = subst (λ b. TakesIf b room n after room') (sym was) (new, t, is)
