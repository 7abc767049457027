-- `arrowflow_reader_column` passes on what it was given: the reader is lent out, and the column is determined by the
-- lent reader.
use Rattle.std.proofs.Common.{◌≡◌, ℕ, List, [], ◌∷◌, refl, sym, ap, subst}
use mir.Syntax.{Ty, named, erased}
use mir.Val.{Val, vunit}
use base.Logic.{emp, id⊢}
use base.Fml.{Lft, ftrue, flft}
use types.Kit.{‵, raw, some, later, ◌⊛◌, ◌$◌, ◌∵◌, !, qed, by, move, keep, drop, split, join, fsplit, fjoin, feq_i, feq_l, pick, await, use0, use1, use2}
use types.Run.{stop, of_opd, unit_lit, no_more, and_then, returns, enter, addr}
use types.ByLocal.{alloc_all, pass_all, free_all, look_at, get, through, sets, lands_as}
use contract.Monad.{fact, fact_i}
use contract.Running.{tables}
use denote.RattleType.{RattleType, owns}
use denote.HoleKnot.{shared_laws}
use denote.Laws.{Is, shows}
use denote.Param.{layout}
use denote.Param.Laws.{Laws, arg_typed}
use denote.Ref.{Bor, ShrRef, mut_vals, mut_Tells}
use denote.Slice.{shr_slice_vals, shr_slice_Tells, shr_slice_Lawful}
use denote.Builtin.{SliceRefOf, usize, unit}
use denote.Signature.{Slot, types_at, plain, named_lft}
use denote.Steps.{nothing, heard, peeks, only}
use denote.Triple.Call.{calls_at}
use denote.Triple.Clauses.{lasts}
use denote.Triple.Spec.{triple_of}
use denote.Triple.Table.{framed}
use denote.Triple.Walked.{Stays, stay_dropped, gave_ref, walk_of, Goes-dropped, Goes-spent_ref, Goes-gave_ref}
use Rattle.std.specs.Prelude.{MatchOption, option_map}
use Rattle.std.specs.declared.option.Option.{Option}
use Rattle.std.specs.declared.option.Option.TheVariants.{None, Some}
use Rattle.std.specs.contracts.option.Option as option
use Rattle.std.proofs.option.Option.TheLaws as option_laws
use Rattle.std.proofs.raw_atomic.Walks.{proved, leaves}
use Rattle.arrowflow_c.specs.Columns.{ColumnIf}
use Rattle.arrowflow_c.specs.Lending.{KeepsReader}
use Rattle.arrowflow_c.specs.declared.columns.ColumnC.{ColumnC}
use Rattle.arrowflow_calls.specs.declared.reading.Reading.{Reading}
use Rattle.arrowflow_calls.specs.contracts.reading.Reading as held
use Rattle.arrowflow_calls.proofs.reading.Reading.TheLaws as held_laws
use Rattle.arrowflow_c.specs.contracts.columns.ColumnC as column
use Rattle.arrowflow_c.specs.contracts.handle.ReaderC as handle
use Rattle.arrowflow_c.specs.contracts.handle.ReaderC.reading as lending
use Rattle.arrowflow_c.proofs.handle.ReaderC.reading.Met as lends
use Rattle.arrowflow_c.specs.contracts.reader.show_column as showing
use Rattle.arrowflow_c.proofs.reader.show_column.Met as showed
use Rattle.arrowflow_c.specs.contracts.reader.arrowflow_reader_column as F
use Rattle.arrowflow_c.proofs.reader.arrowflow_reader_column.Statement.{statement}
use Rattle.arrowflow_c.proofs.reader.arrowflow_reader_column.Code as code

-- the path and the column as parameters: their lifetimes are the second and the third, and the column holds the first
abbrev path_slot : Slot 3
path_slot = SliceRefOf (1 ∷ []) tt (plain (λ κs. usize)) (λ κs. tt)

abbrev column_slot : Slot 3
column_slot = plain (λ κs. column.the_row (named_lft 3 0 tt κs))

-- at the return the handle is lent out and the path is dropped; the last value of the column, which was passed on, is
-- known
abbrev stayed : Stays (F.ended).signature.params (F.ended).kept
stayed = (stay_dropped _ _, (stay_dropped _ _, (gave_ref (2 ∷ []) tt column_slot, tt)))

-- the reader that is lent out, if there is one
abbrev Lent : Lft → RattleType
Lent κ = option.the_row (ShrRef (named 0) κ held.the_row)

-- the type of the local that it is kept in
abbrev local_type : Ty
local_type = layout (option.the_row (ShrRef erased [] held.the_row))

lent_laws : (κ : Lft) → Laws (Lent κ)
lent_laws κ = option_laws.the_row_laws (ShrRef (named 0) κ held.the_row) (shared_laws (record { mir = named 0; lft = κ }) held.the_row held_laws.the_row_laws)

-- what is reported of the reader that is lent out is reported of the one that the handle has
stated_of : (r : Option (Bor Reading)) (o : Option Reading) (path : List ℕ) (c : ColumnC) → MatchOption r (o ≡ None) (λ b. o ≡ Some b.now)
    → ColumnIf (option_map (λ b. b.now) r) path c → ColumnIf o path c
stated_of None o path c e stated = subst (λ (x : Option Reading). ColumnIf x path c) (sym e) stated
stated_of (Some b) o path c e stated = subst (λ (x : Option Reading). ColumnIf x path c) (sym e) stated

pub arrowflow_reader_column_spec : {M : Type 1} → statement M
arrowflow_reader_column_spec 𝓤 𝓛 𝓜 𝓡 wired =
    let H = 𝓛.H in let 𝓣 = tables 𝓤 H 𝓜 𝓡 𝓡.env in let c = F.clauses 𝓛 𝓜.mem 𝓡.returns in let fn = code.function in
    proved 𝓛 F.ended stayed c 𝓜 𝓡
    (Goes-spent_ref 𝓛 3 (0 ∷ []) tt (plain (λ _. handle.the_row)), (Goes-dropped 𝓛 3 path_slot (F.ended).kept.1.0 (λ κs x f. refl), (Goes-gave_ref 𝓛 3 2 tt column_slot, tt)))
    F.Key.name fn (code.unfolded 𝓤 H 𝓜 𝓡 wired)
    (λ κs. (mut_vals, (shr_slice_vals, (mut_vals, tt))))
    (λ κs. (mut_Tells (named 0) κs.0 handle.the_row, (shr_slice_Tells (named 1) κs.1.0 usize, (mut_Tells (named 2) κs.1.1.0 (column.the_row (named_lft 3 0 tt κs)), tt))))
    (λ κs qs bounds a n are.
    let reader = a.0 in let path = a.1.0 in let col = a.1.1.0 in let κa = κs.0 in let qa = qs.0 in
    let y : (walk_of 𝓛 F.ended stayed c).Ghost = ((κs, qs, bounds, a, (mut_vals reader, (shr_slice_vals path, (mut_vals col, tt)))), tt) in
    let rest = ‵ (flft κs.1.0 qs.1.0) ⊛ ‵ (flft κs.1.1.0 qs.1.1.0) ⊛ ‵ ftrue in
    qed 𝓛 (((‵ (flft κa qa) ⊛ rest) ⊛ ‵ (owns (types_at F.signature.params κs) a y.0.4)) ∷ ‵ ftrue ∷ []) ∵
    split ! $ split ! $ move ! (2 ∷ []) $ fsplit ! $ keep ! (0 ∷ 1 ∷ 2 ∷ 3 ∷ []) $
    -- [the reader; the other parameters; its token; theirs]
    enter ! _ _ _ _ _ $ alloc_all ! (λ l. pass_all ! refl ((tt, tt), (((shr_slice_Lawful 𝓛 (named 1) κs.1.0 usize).typed path (shr_slice_vals path) are.1.0).0, ((tt, tt), tt))) $
    sets ! (addr ! (through ! refl (stop !))) refl (tt, tt) $
    let G = triple_of 𝓛 lending.signature (lending.spec 𝓛 𝓜.mem 𝓡.returns) in
    let z : G.Ghost = (((κa, tt), (qa, tt), tt, (reader, tt), (mut_vals reader, tt)), tt) in
    nothing ! $ move ! (1 ∷ 0 ∷ []) $ join ! $ nothing ! $ move ! (3 ∷ 0 ∷ []) $ join ! $ join ! $ nothing ! $ move ! (1 ∷ 0 ∷ []) $
    use2 𝓛 (raw (G.pre z)) (id⊢ 𝓤 _) $
    calls_at ! (framed 𝓤 H 𝓜 𝓣) G (lends.met 𝓤 𝓛 𝓜 𝓡 (code.calls-arrowflow_c::handle::ReaderC::reading 𝓡.env wired)) z (and_then ! (get ! refl) (no_more !)) (λ v.
    use1 𝓛 (later (some (λ (r : Option (Bor Reading)). ((‵ (flft κa qa) ⊛ ‵ ftrue) ⊛ ‵ ((Lent κa).own_val r (v ∷ []))) ⊛
    some (λ (ws : Unit {0} × Unit {0}). ‵ (lasts lending.ended (κa, tt) (reader, tt) ws) ⊛ ‵ (KeepsReader reader) ⊛ raw (fact 𝓤 (MatchOption r (reader.now.slot.value ≡ None) (λ b. reader.now.slot.value ≡ Some b.now))))))) (id⊢ 𝓤 _) $
    await ! tt $ pick ! (λ r. split ! $ split ! $ split ! $ move ! (3 ∷ []) $ pick ! (λ ws. split ! $ drop ! $ split ! $ move ! (1 ∷ []) $ heard ! _ (λ shown.
    -- [the clause on the reader; its token; nothing; what is lent; the other parameters; their tokens]
    move ! (3 ∷ []) $ peeks ! (Lent κa) (Is (Lent κa)) (shows 𝓛 (Lent κa)) r (v ∷ []) (λ is_lent.
    lands_as ! refl refl (arg_typed local_type (Lent κa) refl refl (v ∷ []) (((lent_laws κa).lawful 𝓛).typed r (v ∷ []) is_lent)).0 $
    sets ! (addr ! (through ! refl (stop !))) refl (tt, tt) $
    -- [what is lent; the clause on the reader; its token; nothing; the other parameters; their tokens]
    let G' = triple_of 𝓛 showing.signature (showing.spec 𝓛 𝓜.mem 𝓡.returns) in
    let z' : G'.Ghost = ((κs, qs, bounds, (r, (path, (col, tt))), (v ∷ [], (shr_slice_vals path, (mut_vals col, tt)))), tt) in
    move ! (0 ∷ 4 ∷ []) $ fjoin ! $ move ! (2 ∷ 4 ∷ []) $ join ! $ join ! $ move ! (0 ∷ 2 ∷ []) $
    use2 𝓛 (raw (G'.pre z')) (id⊢ 𝓤 _) $
    calls_at ! (framed 𝓤 H 𝓜 𝓣) G' (showed.met 𝓤 𝓛 𝓜 𝓡 (code.calls-arrowflow_c::reader::show_column 𝓡.env wired)) z' (and_then ! (get ! refl) (and_then ! (get ! refl) (and_then ! (get ! refl) (no_more !)))) (λ w.
    use1 𝓛 (later (some (λ (u : Unit {0}). ((‵ (flft κa qa) ⊛ rest) ⊛ ‵ (unit.own_val u (w ∷ []))) ⊛
    some (λ (ws : Unit {0} × (Unit {0} × (ColumnC × Unit {0}))). ‵ (lasts showing.ended κs (r, (path, (col, tt))) ws) ⊛ raw (fact 𝓤 (ColumnIf (option_map (λ b. b.now) r) path.now ws.1.1.0)))))) (id⊢ 𝓤 _) $
    await ! tt $ pick ! (λ u. split ! $ split ! $ move ! (1 ∷ []) $ feq_l ! (λ is_unit. lands_as ! (ap only is_unit) refl (tt, tt) $
    move ! (1 ∷ []) $ pick ! (λ ws'. split ! $ move ! (1 ∷ []) $ heard ! _ (λ stated.
    -- [what is left of the parameters; the tokens; the clause on the reader]
    sets ! (of_opd ! (unit_lit !)) refl (tt, tt) $ returns ! (look_at ! 0 refl) $ free_all ! refl $
    let so = stated_of r reader.now.slot.value path.now ws'.1.1.0 shown stated in
    let φ = ColumnIf reader.now.slot.value path.now ws'.1.1.0 in
    use0 𝓛 (raw (fact 𝓤 φ)) (fact_i 𝓤 φ (emp 𝓤) so) $ move ! (3 ∷ 0 ∷ []) $ join ! $
    feq_i ! (List Val) (vunit ∷ []) (vunit ∷ []) refl $ move ! (3 ∷ 2 ∷ 0 ∷ 1 ∷ []) $
    by ! (leaves 𝓛 F.ended stayed c y vunit tt (tt, (tt, (ws'.1.1.0, tt))) (tt, (tt, (tt, tt))))))))))))))))
