use Rattle.std.proofs.Common.{◌≡◌, [], ap, sym, ◌∙◌, inr}
use Rattle.arrow_stream_reader.specs.declared.reader.Verdict.TheVariants.{Bad}
use Rattle.arrow_stream_reader.specs.Decoder.{verdict_of}
use Rattle.arrow_stream_reader.specs.Kind.{kind_of}
use Rattle.arrow_stream_reader.proofs.Streams.{ended_position, same_shows}
use Rattle.arrow_stream_reader.proofs.reader.StreamReader.read.Goals as goal

pub returns-in-Bad-clause-reads : goal.returns-in-Bad-clause-reads
returns-in-Bad-clause-reads c = λ t es at.
    let verdict : c.args.self.now.at.verdict ≡ Bad c.in-Bad.refusal = sym c.verdict.ensures.same ∙ c.in-Bad.is in
    let failed : verdict_of c.self.inside.decoder.phase ≡ Bad c.in-Bad.refusal = ap (λ r. r.at.verdict) c.self.view_is ∙ verdict in
    inr (record {
      refusal = c.in-Bad.refusal;
      kind = c.kind.ensures.same;
      verdict = verdict;
      place = ap (λ r. r.at.place) c.self.view_is;
      position = ended_position c.args.self.now t es c.args.piece.now (λ q. cc) at;
      held = ap (λ r. r.at.rest) (sym c.self.view_is) ∙ c.self.invariant.empty (λ q. cc);
    })

pub returns-in-Bad-clause-fails : goal.returns-in-Bad-clause-fails
returns-in-Bad-clause-fails c = λ _.
    let w = c.self.inside.decoder in
    let old = c.args.self.now in
    let k = c.in-Bad.refusal in
    let shown = c.self.view_is in
    let at_place = ap (λ r. r.at.place) shown in
    let failed : verdict_of w.phase ≡ Bad k = ap (λ r. r.at.verdict) shown ∙ sym c.verdict.ensures.same ∙ c.in-Bad.is in
    let empty = c.self.invariant.empty (λ q. cc) in
    record {
      refusal = k;
      fault_is = ap (λ kind. record { kind = kind; place = w.place }) c.kind.ensures.same ∙ ap (λ p. record { kind = kind_of k; place = p }) at_place;
      new_is = sym c.self.view_is ∙ same_shows w (verdict_of w.phase) old.limits old.at.state old.at.place [] (Bad k) (ap (λ r. r.limits) shown) (ap (λ r. r.at.state) shown) at_place empty failed;
    }
