-- `into_loose` takes the address and the allocator as they are.
use Rattle.std.proofs.Common.{◌≡◌, List, [], ◌∷◌, ◌++◌, refl, sym, subst}
use mir.Val.{Val, vptr}
use base.Logic.{SProp, ent, emp, id⊢}
use base.Fml.{ftrue}
use prog.Wp.{WpFn}
use types.Kit.{‵, raw, ◌⊛◌, ◌$◌, ◌∵◌, !, qed, by, move, keep, split, fsplit, fjoin, suffices, use0}
use types.Run.{stop, fld, of_opd, no_more, and_then, returns, enter}
use types.ByLocal.{alloc_all, pass_all, free_all, look_at, get, get_in, sets}
use types.Part.{agg, sub, whole}
use contract.Monad.{fact, fact_i}
use contract.Running.{tables}
use denote.Exit.{yes}
use denote.RattleType.{RattleType, owns}
use denote.Signature.{types_at, plain}
use denote.RawPtr.{block_ptr}
use denote.Steps.{nothing, heard}
use denote.Triple.Walked.{Stays, stay_dropped, walk_of, Goes-dropped}
use Rattle.std.proofs.alloc.Calls.{handle_tells}
use Rattle.std.proofs.raw_atomic.Walks.{proved_at, leaves}
use Rattle.std.specs.contracts.impls.GlobalAllocator.TheImpl.{ghosts}
use Rattle.std.specs.Prelude.{IsTrue, is_some}
use Rattle.std.specs.declared.option.Option.{Option}
use Rattle.arrowflow_calls.specs.declared.pieces.Copying.{Copying}
use Rattle.std.specs.declared.option.Option.TheVariants.{None, Some}
use Rattle.std.proofs.alloc.Global.TheLaws as heap_laws
use Rattle.arrowflow_c.proofs.Addresses.{RawBox, Z, both, heap_al, loose_good, loose_in, one_val}
use Rattle.arrowflow_c.proofs.CopierAddresses.{slot_out}
use Rattle.arrowflow_calls.specs.contracts.pieces.Copying as held
use Rattle.arrowflow_c.specs.contracts.copier_slot.CopierSlot as slot
use Rattle.arrowflow_c.specs.contracts.copier_slot.CopierSlot.into_loose.{ended, clauses}
use Rattle.arrowflow_c.specs.contracts.copier_slot.CopierSlot.into_loose.Key.{name as #self}
use Rattle.arrowflow_c.proofs.copier_slot.CopierSlot.into_loose.Statement.{statement}
use Rattle.arrowflow_c.proofs.copier_slot.CopierSlot.into_loose.Code as code

held_in : (o : Option Copying) → IsTrue (is_some o) → (x : Copying) × (o ≡ Some x)
held_in None some = absurd (cc)
held_in (Some x) some = (x, refl)

pub into_loose_spec : {M : Type 1} → statement M
into_loose_spec 𝓤 𝓛 𝓜 𝓡 wired =
    let H = 𝓛.H in let 𝓣 = tables 𝓤 H 𝓜 𝓡 𝓡.env in let R : RattleType = held.the_row in let LZ = heap_laws.the_row_laws in let Lr : RattleType = RawBox R Z LZ ghosts in
    let c = clauses 𝓛 𝓜.mem 𝓡.returns in let fn = code.function in let hs : Stays ended.signature.params ended.kept = (stay_dropped (plain (λ _. slot.the_row)) yes, (stay_dropped (plain (λ _. Z)) yes, tt)) in
    proved_at 𝓛 ended hs c 𝓜 𝓡 (Goes-dropped 𝓛 0 (plain (λ _. slot.the_row)) yes (λ κs x f. refl), (Goes-dropped 𝓛 0 (plain (λ _. Z)) yes (λ κs x f. refl), tt)) #self fn (code.unfolded 𝓤 H 𝓜 𝓡 wired) (λ z are.
    let κs = z.0.0 in let v = z.0.3.0 in let a = z.0.3.1.0 in let Post : Val → SProp 𝓤 = (walk_of 𝓛 ended hs c).post z in let Run : List Val → SProp 𝓤 = λ ws. WpFn 𝓤 H 𝓣.C 𝓣.Λ fn ws Post in
    qed 𝓛 ((‵ ftrue ⊛ ‵ (owns (types_at ended.signature.params κs) z.0.3 z.0.4)) ∷ raw (fact 𝓤 (IsTrue (is_some v.value))) ∷ []) ∵ move ! (1 ∷ []) $ heard ! (IsTrue (is_some v.value)) (λ some. let x = (held_in v.value some).0 in let is = (held_in v.value some).1 in split ! $ move ! (1 ∷ []) $ fsplit ! $ slot_out ! v z.0.4.0 x is (λ b o e ws.
    move ! (1 ∷ []) $ fsplit ! $ handle_tells heap_al ! a z.0.4.1.0 (λ h vs fits.
    let w : Val = both (vptr b o) h in let typed = loose_good R Z LZ ghosts b o h fits in let u : Val = one_val (vptr b o) in
    suffices ! (Run (u ∷ h ∷ [])) (subst (λ (us : List Val). ent 𝓤 (Run (u ∷ h ∷ [])) (Run us)) (sym (λ i. ws i ++ (vs i ++ []))) (id⊢ 𝓤 (Run (u ∷ h ∷ [])))) $
    enter ! 𝓣.C 𝓣.Λ fn (u ∷ h ∷ []) Post $ alloc_all ! (λ l. pass_all ! refl ((tt, (tt, tt)), (fits, tt)) $
    sets ! (of_opd ! (get_in ! (fld ! refl (stop !)) (sub ! 0 refl (whole !)))) refl (tt, tt) $
    sets ! (of_opd ! (get ! refl)) refl (tt, tt) $ sets ! (agg ! (and_then ! (get ! refl) (and_then ! (get ! refl) (no_more !)))) refl typed $
    move ! (2 ∷ 0 ∷ []) $ loose_in R Z LZ ghosts ! b o h a x $ use0 𝓛 (raw (fact 𝓤 (v.value ≡ Some x))) (fact_i 𝓤 (v.value ≡ Some x) (emp 𝓤) is) $ nothing ! $ nothing ! $ fjoin ! $ nothing ! $ fjoin ! $
    returns ! (look_at ! 0 refl) $ free_all ! refl $ keep ! (4 ∷ 0 ∷ 2 ∷ 1 ∷ []) $ by ! (leaves 𝓛 ended hs c z w (record { at = block_ptr b o; alloc = a; value = x }) (tt, (tt, tt)) (tt, (tt, tt))))))))
