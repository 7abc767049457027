use Rattle.std.proofs.Common.{◌++◌, ◌-◌, length, take, drop, ap, ◌∙◌}
use Rattle.std.proofs.lemmas.List.{take-append-drop, take_rest}
use Rattle.arrowflow_input.proofs.Feeding.{receiving_next, stopped_inside, on_err-always}
use Rattle.arrowflow_input.proofs.session.hand_out.Goals as goal

pub returns-in_err-handed-clause-inside : goal.returns-in_err-handed-clause-inside
returns-in_err-handed-clause-inside c =
    let rest = c.loop-cut.rest.now in
    let n = c.min-end.result in
    on_err-always _ (stopped_inside c.feed.new.reader c.loop-cut.invariant (take n rest) (drop n rest) c.in_err-handed.ensures.inside (take-append-drop n rest))

pub loop-cut-preserved : goal.loop-cut-preserved
loop-cut-preserved c =
    let rest = c.loop-cut.rest.now in
    let n = c.min-end.result in
    receiving_next c.feed.new.reader c.loop-cut.invariant c.in_ok-handed.handed.items (take n rest) (take (length rest - n) (drop n rest)) c.in_ok-handed.ensures.feeds
    (ap (λ y. take n rest ++ y) (take_rest rest n) ∙ take-append-drop n rest) c.in_ok-handed.ensures.limits
