-- The machine values of a `CopierSlot`.
use Rattle.std.proofs.Common.{◌≡◌, ℕ, List, [], ◌∷◌, ◌++◌, refl, sym, ap, subst}
use seplogic.Ra.Ura.{Ura}
use mir.Raw.{raw as bare}
use mir.Val.{Val, vptr, vstruct, of_list}
use base.Logic.{never, fst∗}
use types.Logic.{Logic, sem}
use types.Kit.{Item, Goal, Seq, Step, step, ‵, ◌$◌, drop, fsplit, fjoin, fpick, fpack, rewrite, feq_i, feq_l}
use denote.RattleType.{Valss}
use denote.Builtin.{RawPtr}
use denote.Memory.{lone}
use denote.RawPtr.{Ptr, block_ptr, null_ptr, ptr_val, in_a_block}
use denote.Steps.{nothing}
use denote.Struct.Struct.{within}
use denote.Struct.Owning.{shape}
use Rattle.std_alloc.specs.Box.Ownership.{box_owns}
use Rattle.std.specs.declared.option.Option.{Option}
use Rattle.std.specs.declared.option.Option.TheVariants.{Some}
use Rattle.std.specs.contracts.impls.GlobalAllocator.TheImpl.{ghosts}
use Rattle.arrowflow_c.specs.Owned.{owned_copier, heap as the_heap}
use Rattle.arrowflow_calls.specs.declared.pieces.Copying.{Copying}
use Rattle.arrowflow_calls.specs.contracts.pieces.Copying as held
use Rattle.arrowflow_c.specs.contracts.copier_slot.CopierSlot as slot
use Rattle.arrowflow_c.proofs.Addresses.{one_val}

module _ {M : Type 1} {𝓤 : Ura M} {𝓛 : Logic 𝓤} {K : Type 0} {Γ : List (Item 𝓤)} {G : Goal 𝓤 𝓛.H} where
  pub slot_in : K → (p : Ptr) (v : Val) (x : Option Copying) → ptr_val p ≡ v
      → Step K 𝓛 (‵ ((slot.the_row).own_val (record { at = p; value = x }) (one_val v ∷ [])) ∷ Γ) G (‵ (owned_copier p x) ∷ Γ) G
  slot_in t p v x e = step (λ s. let w : Val = one_val v in
      nothing t $ feq_i t (List Val) (v ∷ []) (ptr_val p ∷ []) (ap (λ (u : Val). u ∷ []) (sym e)) $ fjoin t $ feq_i t (List Val) (w ∷ []) (w ∷ []) refl $ fjoin t $
      fpack t (Valss (RawPtr ∷ [])) (within (shape slot.the_type) (p, tt) (w ∷ [])) (v ∷ [], tt) $ fjoin t $ s)

  pub slot_out : K → (d : (slot.the_row).Denot) (vs : List Val) (x : Copying) → d.value ≡ Some x
      → ((b o : ℕ) → d.at ≡ block_ptr b o → vs ≡ one_val (vptr b o) ∷ [] → Seq K 𝓛 (‵ (box_owns (ghosts.dealloc_token the_heap) held.the_row (block_ptr b o) x) ∷ Γ) G)
      → Seq K 𝓛 (‵ ((slot.the_row).own_val d vs) ∷ Γ) G
  slot_out t d vs x is k =
      fsplit t $ fpick t (λ vss. fsplit t $ feq_l t (λ ev. fsplit t $ feq_l t (λ ep. drop t $
      rewrite t 0 (λ (v : Option Copying). ‵ (owned_copier d.at v)) is refl $
      in_a_block t d.at (λ p. box_owns (ghosts.dealloc_token the_heap) held.the_row p x) (fst∗ 𝓤 (never 𝓤) (sem 𝓛 (ghosts.dealloc_token the_heap (bare (lone (held.the_row).mir)) null_ptr))) (λ b o e. k b o e
      (subst (λ (p : Ptr). vs ≡ vstruct (of_list (ptr_val p ∷ [])) ∷ []) e (subst (λ (ps : List Val). vs ≡ vstruct (of_list (ps ++ [])) ∷ []) ep ev))))))
