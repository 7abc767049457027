use Rattle.std.proofs.Common.{◌≡◌, ◌+◌, ◌++◌, [], ◌∷◌, sym, ap, ◌∙◌, subst, arith, take}
use Rattle.std.proofs.lemmas.List.{take_more}
use Rattle.arrowflow_session.specs.Report.{Reports}
use Rattle.arrowflow_session.proofs.Reporting.{one_more}
use Rattle.arrowflow_session.proofs.session.run.Goals as goal

pub loop-connection-preserved : goal.loop-connection-preserved
loop-connection-preserved c =
    let i = c.loop-connection.invariant in
    let l = c.args.limits.now in
    let n = c.loop-connection.connection-index in
    let cs = c.args.connections.now in
    let x = c.connection-item.result in
    let more : take (n + 1) cs ≡ take n cs ++ x ∷ [] = take_more cs n x (omega arith) ∙ ap (λ y. take n cs ++ y ∷ []) (sym c.connection-item.is) in (
      c.in_ok-run_one.ensures.same,
      subst (λ r. Reports l (take (n + 1) cs) r) (sym c.in_ok-push.ensures.items)
          (subst (λ r. Reports l r (c.loop-connection.reports.items ++ c.in_ok-run_one.field-0 ∷ [])) (sym more)
          (one_more l (take n cs) c.loop-connection.reports.items x c.in_ok-run_one.field-0 i.1 c.in_ok-run_one.ensures.report)),
    )
