use Rattle.std.proofs.Common.{sym, ap, ◌∙◌, subst}
use Rattle.arrow_stream_reader.specs.Front.{Snapshot, FrontOf}
use Rattle.arrow_stream_reader.proofs.Fronts.{one_front}
use Rattle.arrow_stream_reader.proofs.laws.same_snapshot.Goals as goal

pub returns : goal.returns
returns c = record {
  same = λ r q t es fs x y e.
      let w = one_front (subst (λ l. FrontOf l t es (record { state = r.at.state; place = r.at.place; rest = x.rest; verdict = r.at.verdict })) e x.front) y.front in
      let v = ap (λ (s : Snapshot). s.verdict) w.1 in
      (w.0, ap (λ (s : Snapshot). s.state) w.1, ap (λ (s : Snapshot). s.place) w.1, v, λ o. sym (x.held o) ∙ ap (λ (s : Snapshot). s.rest) w.1 ∙ y.held (sym v ∙ o));
}
