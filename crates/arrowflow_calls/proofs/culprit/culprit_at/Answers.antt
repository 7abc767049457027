use Rattle.std.proofs.Common.{◌∙◌, drop, sym, ap, subst, inl, inr}
use Rattle.std.specs.Prelude.{is_some}
use Rattle.arrowflow_calls.specs.Blame.{ending_fault, refusal_by}
use Rattle.arrowflow_calls.specs.Culprit.{ReportsMessage}
use Rattle.arrowflow_calls.proofs.Blaming.{ends_bad, reported_bad}
use Rattle.arrowflow_calls.proofs.culprit.culprit_at.Goals as goal

pub returns-in-Some : goal.returns-in-Some
returns-in-Some c =
    let limits = c.args.limits.now in
    let at = c.args.reader.now.at in
    let fault = c.in-Some.fault in
    let stated = c.culprit_of.result in
    let message = drop at.place c.args.bytes.now in
    let bad = ends_bad at.verdict (is_some at.state.schema) at.rest at.place fault (ap ending_fault (sym c.end.ensures.ended) ∙ sym c.ending_fault.ensures ∙ c.in-Some.is) in
    let is = c.tail-message.ensures ∙ ap (λ n. drop n c.args.bytes.now) c.place.ensures.place in
    elim c.culprit_of.ensures [
      | inl says ↦ inl (reported_bad limits at.verdict fault at.state message stated bad (subst (λ b. ReportsMessage limits (refusal_by fault) at.state b stated) is says))
      | inr memory ↦ inr memory
    ]
