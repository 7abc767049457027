use Rattle.std.proofs.Common.{ap, refl, subst}
use Rattle.arrow_stream_reader.specs.Stream.{ReaderView}
use Rattle.arrowflow_json.specs.Showing.{HaveShown, WritingBegan}
use Rattle.arrowflow_json.specs.Shows.{ShowsInput, rows_form}
use Rattle.arrowflow_json.proofs.Showing.{rows_fit}
use Rattle.arrowflow_json.proofs.Writing.{input_written, nothing_written}
use Rattle.arrowflow_json.proofs.show.show_json.Goals as goal

-- what was written for the input
pub returns-clause-written : goal.returns-clause-written
returns-clause-written g c =
    let output = c.args.output in
    let began : WritingBegan = record { first = g.S.Sink.contents output; failures = g.S.Sink.failed output } in
    let own = c.new-reader.result.limits in
    let had = g.R.Input.remaining c.args.input.now in
    let left = g.R.Input.remaining c.drive-lines.new.input in
    let after = c.drive-lines.result.0.output in
    let answer = c.drive-lines.result.1 in
    let driven = c.drive-lines.ensures.driven began (nothing_written rows_form rows_fit began (g.S.Sink.contents output) (g.S.Sink.failed output) refl refl) in
    subst (λ l. ShowsInput l had left began.first began.failures answer (g.S.Sink.contents after) (g.S.Sink.failed after)) (ap (λ (r : ReaderView). r.limits) c.new-reader.ensures.fresh)
    (input_written rows_form rows_fit began (g.S.Sink.contents after) (g.S.Sink.failed after) (g.S.Sink.is_passed_on after) (HaveShown g.S.Sink.contents g.S.Sink.failed began) own had left c.drive-lines.new.reader c.drive-lines.ensures.limits answer driven).0

-- after a good end the output has flushed everything that it accepted
pub returns-clause-passed : goal.returns-clause-passed
returns-clause-passed g c =
    let output = c.args.output in
    let began : WritingBegan = record { first = g.S.Sink.contents output; failures = g.S.Sink.failed output } in
    let own = c.new-reader.result.limits in
    let had = g.R.Input.remaining c.args.input.now in
    let left = g.R.Input.remaining c.drive-lines.new.input in
    let after = c.drive-lines.result.0.output in
    let driven = c.drive-lines.ensures.driven began (nothing_written rows_form rows_fit began (g.S.Sink.contents output) (g.S.Sink.failed output) refl refl) in
    (input_written rows_form rows_fit began (g.S.Sink.contents after) (g.S.Sink.failed after) (g.S.Sink.is_passed_on after) (HaveShown g.S.Sink.contents g.S.Sink.failed began) own had left c.drive-lines.new.reader c.drive-lines.ensures.limits c.drive-lines.result.1 driven).1
