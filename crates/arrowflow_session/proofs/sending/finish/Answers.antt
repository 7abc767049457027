use Rattle.std.proofs.Common.{◌++◌, [], ◌∷◌, refl, ap, ◌∙◌, inl}
use Rattle.std.proofs.lemmas.List.{map-append}
use Rattle.arrowflow_session.specs.Report.{items_of}
use Rattle.arrowflow_session.proofs.Progressing.{after}
use Rattle.arrowflow_session.proofs.sending.finish.Goals as goal

pub returns-in_ok-push-in-Ok : goal.returns-in_ok-push-in-Ok
returns-in_ok-push-in-Ok c =
    let a = c.in-Ok.ensures.answer in
    let part = c.in_ok-part-in-Ok.ensures ∙ after c.bytes_of-before.result.now c.bytes_of.result.now a.marker _ _ c.bytes_of-before.ensures c.bytes_of.ensures a.accepted in
    inl (record {
      ends = a;
      part = ap items_of c.in_ok-push-in-Ok.ensures.items ∙ map-append _ c.args.parts.now.items (c.in_ok-part-in-Ok.part ∷ []) ∙ ap (λ r. items_of c.args.parts.now.items ++ r ∷ []) part;
      same = refl;
    })
