use Rattle.std.proofs.Common.{◌≤◌, ◌+◌, ◌^◌, Err, refl, sym, subst, arith}
use Rattle.arrow_stream_laws.specs.Writer.{Finishes, WriterView}
use Rattle.arrow_sink.specs.declared.status.Status.TheVariants as statuses
use Rattle.arrow_stream_writer.specs.Shown.{shown}
use Rattle.arrow_stream_writer.proofs.Showing.{finish_failed, finishes, writing}
use Rattle.arrow_stream_writer.proofs.stream_writer.StreamWriter.finish.Goals as goal

-- the end marker was accepted
pub returns-in-Ok-clause-answer : goal.returns-in-Ok-clause-answer
returns-in-Ok-clause-answer g c =
    let old = shown g.S.Sink.contents g.S.Sink.failed c.args.self.now in
    let new : WriterView = record old {
      place = old.place + 8;
      status = statuses.Finished;
      contents = g.S.Sink.contents c.send_end.new.sink;
      failures = g.S.Sink.failed c.send_end.new.sink;
    } in
    let open_before = writing old.status (sym c.in_ok-taking.ensures) in
    let near : old.place + 8 ≤ 2 ^ 62 = omega (arith, c.if-self.false) in
    finishes old new refl refl refl refl open_before near c.in-Ok.ensures.all refl refl c.in-Ok.ensures.fine

-- the sink failed within it, or when it was flushed
pub returns-in-Err-clause-answer : goal.returns-in-Err-clause-answer
returns-in-Err-clause-answer g c =
    let old = shown g.S.Sink.contents g.S.Sink.failed c.args.self.now in
    let new : WriterView = record old {
      status = statuses.Broken;
      contents = g.S.Sink.contents c.send_end.new.sink;
      failures = g.S.Sink.failed c.send_end.new.sink;
    } in
    let open_before = writing old.status (sym c.in_ok-taking.ensures) in
    let near : old.place + 8 ≤ 2 ^ 62 = omega (arith, c.if-self.false) in
    subst (λ k. Finishes old (Err k) new) (sym c.in-Err.ensures.fault)
    (finish_failed old new refl refl refl refl open_before near c.in-Err.ensures.beginning refl refl c.in-Err.ensures.failed)
