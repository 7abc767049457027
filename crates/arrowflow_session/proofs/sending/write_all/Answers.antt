use Rattle.std.proofs.Common.{◌≡◌, ◌+◌, ◌∷◌, ap, ◌∙◌, sym, drop, arith}
use Rattle.std.proofs.lemmas.List.{drop_more}
use Rattle.arrowflow_session.specs.Running.{shown_kept}
use Rattle.arrowflow_session.proofs.Progressing.{goes_so_far, over_same, over_then}
use Rattle.arrowflow_session.proofs.sending.write_all.Goals as goal

pub loop-number-preserved : goal.loop-number-preserved
loop-number-preserved c =
    let i = c.loop-number.invariant in
    let n = c.loop-number.number in
    let ts = c.args.batches.now in
    let t = c.index-batches-number.result in
    let old = shown_kept c.loop-number.writer in
    let new = shown_kept c.write_one.new.writer in
    let tried = c.in_ok-write_one.ensures in
    let next : drop n ts ≡ t ∷ drop (n + 1) ts = drop_more ts n t (omega arith) ∙ ap (λ x. x ∷ drop (n + 1) ts) (sym c.index-batches-number.is) in (
      goes_so_far old new ts n t _ _ _ _ i.0 next tried,
      over_then (shown_kept c.args.writer.now) old new i.1 (over_same old new n t _ _ _ _ tried),
    )
