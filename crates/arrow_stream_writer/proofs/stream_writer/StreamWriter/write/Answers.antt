use Rattle.std.proofs.Common.{◌+◌, List, Err, refl, sym, ap, ◌∙◌, subst, arith}
use Rattle.std.specs.Io.KnownBytes.{Appends}
use Rattle.arrow_sink.specs.Sinks.{AcceptsBeginning}
use Rattle.arrow_stream_laws.specs.Writer.{WriterView, Writes}
use Rattle.arrow_sink.specs.declared.status.Status.TheVariants as statuses
use Rattle.arrow_stream_writer.specs.Parts.{options_of}
use Rattle.arrow_stream_writer.specs.Shown.{shown}
use Rattle.arrow_stream_writer.specs.Terms.{Terms, terms_of}
use Rattle.arrow_stream_writer.proofs.Showing.{HasTerms, part_near, writes_accepted, writes_failed, writing}
use Rattle.arrow_stream_writer.proofs.stream_writer.StreamWriter.write.Goals as goal

-- the batch messages were accepted
pub returns-in-Ok-clause-answer : goal.returns-in-Ok-clause-answer
returns-in-Ok-clause-answer g c =
    let old = shown g.S.Sink.contents g.S.Sink.failed c.args.self.now in
    let terms = terms_of c.args.self.now.builder.settings in
    let settings = c.build.new.self.settings in
    let built = c.in_ok-build.ensures.built in
    let kept = c.in_ok-build.ensures.settings in
    let new : WriterView = record {
      limits = settings.limits;
      options = options_of (terms_of settings);
      shape = settings.schema.value;
      sent = c.send_part.new.tracker.sent;
      place = old.place + c.len.result;
      status = c.args.self.now.status;
      contents = g.S.Sink.contents c.send_part.new.sink;
      failures = g.S.Sink.failed c.send_part.new.sink;
    } in
    let was : HasTerms terms old = record { limits = refl; options = refl; shape = refl } in
    let has : HasTerms terms new = record { limits = ap (λ (u : Terms). u.limits) kept; options = ap options_of kept; shape = ap (λ (u : Terms). u.shape) kept } in
    let open_before = writing old.status (sym c.in_ok-taking.ensures) in
    let more = subst (λ (xs : List _). Appends old.contents new.contents xs) (sym built.same) c.in-Ok.ensures.all in
    let long = c.len.ensures ∙ built.sized in
    writes_accepted terms c.args.batch.now old new was has open_before built.frames built.is_part more (c.in-Ok.ensures.committed ∙ built.staged) (ap (λ n. old.place + n) long) open_before c.in-Ok.ensures.fine

-- the sink failed within them
pub returns-in-Err-clause-answer : goal.returns-in-Err-clause-answer
returns-in-Err-clause-answer g c =
    let old = shown g.S.Sink.contents g.S.Sink.failed c.args.self.now in
    let terms = terms_of c.args.self.now.builder.settings in
    let settings = c.build.new.self.settings in
    let built = c.in_ok-build.ensures.built in
    let kept = c.in_ok-build.ensures.settings in
    let new : WriterView = record {
      limits = settings.limits;
      options = options_of (terms_of settings);
      shape = settings.schema.value;
      sent = c.send_part.new.tracker.sent;
      place = old.place;
      status = statuses.Broken;
      contents = g.S.Sink.contents c.send_part.new.sink;
      failures = g.S.Sink.failed c.send_part.new.sink;
    } in
    let was : HasTerms terms old = record { limits = refl; options = refl; shape = refl } in
    let has : HasTerms terms new = record { limits = ap (λ (u : Terms). u.limits) kept; options = ap options_of kept; shape = ap (λ (u : Terms). u.shape) kept } in
    let open_before = writing old.status (sym c.in_ok-taking.ensures) in
    let some = subst (λ (xs : List _). AcceptsBeginning old.contents new.contents xs) (sym built.same) c.in-Err.ensures.beginning in
    subst (λ k. Writes old c.args.batch.now (Err k) new) (sym c.in-Err.ensures.fault)
    (writes_failed terms c.args.batch.now old new was has open_before built.frames built.is_part some (c.in-Err.ensures.discarded ∙ built.kept) refl refl c.in-Err.ensures.failed)

-- the batch messages end before the last offset
pub invariant_of-self-in-Ok-clause-near : goal.invariant_of-self-in-Ok-clause-near
invariant_of-self-in-Ok-clause-near g c =
    let old = c.args.self.now in
    let terms = terms_of old.builder.settings in
    let built = c.in_ok-build.ensures.built in
    let long = c.len.ensures ∙ built.sized in
    omega (arith, long, part_near terms old.place c.args.batch.now old.builder.tracker.sent built.frames built.is_part)

-- so their end is an offset
pub overflow_add-self : goal.overflow_add-self
overflow_add-self g c =
    let old = c.args.self.now in
    let built = c.in_ok-build.ensures.built in
    let long = c.len.ensures ∙ built.sized in
    omega (arith, long, part_near (terms_of old.builder.settings) old.place c.args.batch.now old.builder.tracker.sent built.frames built.is_part)
