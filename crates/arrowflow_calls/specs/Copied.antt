-- What is reported of a stream that is written again as its pieces come.
use Rattle.std.specs.Prelude.{◌≡◌, ◌⊎◌, ℕ, List, [], length, Option, None, Some, is_some, true, Ok, Err}
use Rattle.arrow_types.specs.Limits.{LimitNumbers}
use Rattle.arrow_stream_laws.specs.Sizes.{Options}
use Rattle.arrowflow_copy.specs.Pieces.{Answer, CopierView, GoesOnAt, PutsEnd, PutsPiece, TakesWritten}
use Rattle.arrowflow_copy.specs.CopierShown.{copier_view}
use Rattle.arrowflow_calls.specs.declared.pieces.CopiedC.{CopiedC}
use Rattle.arrowflow_calls.specs.declared.pieces.Copying.{Copying}
use Rattle.arrowflow_calls.specs.declared.terms.LimitsC.{LimitsC}
use Rattle.arrowflow_calls.specs.declared.terms.OptionsC.{OptionsC}
use Rattle.arrowflow_calls.specs.Kinds.{bad_limits, kind_of, no_handle, out_of_memory, place_of}
use Rattle.arrowflow_calls.specs.Terms.{AreLimits, numbers, options_by}

-- the number of how a copy ended, 0 while it goes on
abbrev pub kind_so : Option Answer → ℕ
kind_so None = 0
kind_so (Some (Ok done)) = 0
kind_so (Some (Err fault)) = kind_of fault

-- the place of the fault with which it ended, 0 if there is none
abbrev pub place_so : Option Answer → ℕ
place_so None = 0
place_so (Some (Ok done)) = 0
place_so (Some (Err fault)) = place_of fault

-- what is reported of a copy
abbrev pub copied_reported : CopierView → CopiedC
copied_reported v = record { kind = kind_so v.ended; is_over = is_some v.ended; place = place_so v.ended; waiting = length v.waiting }

-- what is reported if there is no copier
abbrev pub no_copier : CopiedC
no_copier = record { kind = no_handle; is_over = true; place = 0; waiting = 0 }

-- a copier with these limits and options to which nothing was given
pub record IsFresh (limits : LimitNumbers) (o : Options) (v : CopierView) : Type 0 where
  pub goes_on : v.ended ≡ None
  pub nothing : GoesOnAt limits o v [] []

-- A copier was made; or none, if an allocation failed, a limit is above its ceiling or there is no such set of types.
abbrev pub OpensCopier : LimitsC → OptionsC → ℕ → Option Copying → Type 0
OpensCopier limits options kind new =
    (AreLimits limits
    × (((kind ≡ 0) × ((c : Copying) × (new ≡ Some c) × IsFresh (numbers limits) (options_by options) (copier_view c.copier)))
    ⊎ ((kind ≡ out_of_memory) × (new ≡ None))))
    ⊎ ((AreLimits limits → ⊥) × (kind ≡ bad_limits) × (new ≡ None))

-- A copier, if there is one, was given a piece, and its state after that was reported.
abbrev pub PutsIf : Option Copying → List ℕ → CopiedC → Option Copying → Type 0
PutsIf None piece stated new = (stated ≡ no_copier) × (new ≡ None)
PutsIf (Some old) piece stated new =
    (c : Copying) × PutsPiece (copier_view old.copier) piece (copier_view c.copier) × (stated ≡ copied_reported (copier_view c.copier)) × (new ≡ Some c)

-- The copier's stream ended, and its state after that was reported.
abbrev pub EndsCopy : Option Copying → CopiedC → Option Copying → Type 0
EndsCopy None stated new = (stated ≡ no_copier) × (new ≡ None)
EndsCopy (Some old) stated new = (c : Copying) × PutsEnd (copier_view old.copier) (copier_view c.copier) × (stated ≡ copied_reported (copier_view c.copier)) × (new ≡ Some c)

-- That many waiting bytes were moved into an output buffer, if there is a copier.
abbrev pub TakesIf : Option Copying → List ℕ → ℕ → Option Copying → List ℕ → Type 0
TakesIf None room n new room' = (n ≡ 0) × (room' ≡ room) × (new ≡ None)
TakesIf (Some old) room n new room' = (c : Copying) × TakesWritten (copier_view old.copier) room n (copier_view c.copier) room' × (new ≡ Some c)
