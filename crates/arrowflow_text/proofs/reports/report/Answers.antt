use Rattle.std.proofs.Common.{refl, sym, ap, subst, ◌∙◌}
use Rattle.std.specs.Prelude.{OnOk}
use Rattle.arrow_stream_reader.specs.Stream.{ReaderView}
use Rattle.arrowflow_text.specs.Chosen.{choice_of, form_of}
use Rattle.arrowflow_text.specs.Columns.{LacksInput}
use Rattle.arrowflow_text.specs.Windows.{ShowsWindowOf}
use Rattle.arrowflow_text.specs.Reports.{ReportsInput}
use Rattle.arrowflow_text.specs.ReportWriting.{ReportWritingBegan}
use Rattle.arrowflow_text.proofs.Messages.{call_all, call_window, call_has, call_lacks, call_passed, nothing_reported}
use Rattle.arrowflow_text.proofs.reports.report.Goals as goal

pub returns-clause-written : goal.returns-clause-written
returns-clause-written g c has all =
    let writer = c.args.writer in
    let began : ReportWritingBegan = record { report = writer.report; first = g.S.Sink.contents writer.output; failures = g.S.Sink.failed writer.output; window = writer.window } in
    let own = c.new-reader.result.limits in
    let had = g.R.Input.remaining c.args.input.now in
    let left = g.R.Input.remaining c.drive-writer.new.input in
    let reported = c.drive-writer.result.0 in
    let answer = c.drive-writer.result.1 in
    let driven = c.drive-writer.ensures.driven began (nothing_reported g.S.Sink.contents g.S.Sink.failed g.S.Sink.is_passed_on began writer own refl refl refl refl c.requires.none c.requires.has c.requires.limited) in
    let limits_are = ap (λ (r : ReaderView). r.limits) c.new-reader.ensures.fresh in
    let output_is = sym c.into_parts-output.ensures.output in
    let lacks_is = sym c.into_parts-output.ensures.lacks in
    subst (λ o. ReportsInput writer.report c.args.limits.now had left began.first began.failures answer (g.S.Sink.contents o) (g.S.Sink.failed o)) output_is
    (subst (λ l. ReportsInput writer.report l had left began.first began.failures answer (g.S.Sink.contents reported.output) (g.S.Sink.failed reported.output)) limits_are
    (call_all g.S.Sink.contents g.S.Sink.failed g.S.Sink.is_passed_on began reported own had left c.drive-writer.new.reader c.drive-writer.ensures.limits answer driven (lacks_is ∙ has) all))

pub returns-clause-first : goal.returns-clause-first
returns-clause-first g c has rows n some =
    let writer = c.args.writer in
    let began : ReportWritingBegan = record { report = writer.report; first = g.S.Sink.contents writer.output; failures = g.S.Sink.failed writer.output; window = writer.window } in
    let own = c.new-reader.result.limits in
    let had = g.R.Input.remaining c.args.input.now in
    let left = g.R.Input.remaining c.drive-writer.new.input in
    let reported = c.drive-writer.result.0 in
    let answer = c.drive-writer.result.1 in
    let driven = c.drive-writer.ensures.driven began (nothing_reported g.S.Sink.contents g.S.Sink.failed g.S.Sink.is_passed_on began writer own refl refl refl refl c.requires.none c.requires.has c.requires.limited) in
    let limits_are = ap (λ (r : ReaderView). r.limits) c.new-reader.ensures.fresh in
    let output_is = sym c.into_parts-output.ensures.output in
    let lacks_is = sym c.into_parts-output.ensures.lacks in
    subst (λ o. ShowsWindowOf (form_of writer.report) (choice_of writer.report) n c.args.limits.now had left began.first began.failures answer (g.S.Sink.contents o) (g.S.Sink.failed o)) output_is
    (subst (λ l. ShowsWindowOf (form_of writer.report) (choice_of writer.report) n l had left began.first began.failures answer (g.S.Sink.contents reported.output) (g.S.Sink.failed reported.output)) limits_are
    (call_window g.S.Sink.contents g.S.Sink.failed g.S.Sink.is_passed_on began reported own had left c.drive-writer.new.reader c.drive-writer.ensures.limits answer driven (lacks_is ∙ has) n some))

pub returns-clause-lacks : goal.returns-clause-lacks
returns-clause-lacks g c k is =
    let writer = c.args.writer in
    let began : ReportWritingBegan = record { report = writer.report; first = g.S.Sink.contents writer.output; failures = g.S.Sink.failed writer.output; window = writer.window } in
    let own = c.new-reader.result.limits in
    let had = g.R.Input.remaining c.args.input.now in
    let left = g.R.Input.remaining c.drive-writer.new.input in
    let reported = c.drive-writer.result.0 in
    let answer = c.drive-writer.result.1 in
    let driven = c.drive-writer.ensures.driven began (nothing_reported g.S.Sink.contents g.S.Sink.failed g.S.Sink.is_passed_on began writer own refl refl refl refl c.requires.none c.requires.has c.requires.limited) in
    let limits_are = ap (λ (r : ReaderView). r.limits) c.new-reader.ensures.fresh in
    let output_is = sym c.into_parts-output.ensures.output in
    let lacks_is = sym c.into_parts-output.ensures.lacks in
    subst (λ o. LacksInput (choice_of writer.report) c.args.limits.now had left began.first began.failures k (g.S.Sink.contents o) (g.S.Sink.failed o)) output_is
    (subst (λ l. LacksInput (choice_of writer.report) l had left began.first began.failures k (g.S.Sink.contents reported.output) (g.S.Sink.failed reported.output)) limits_are
    (call_lacks g.S.Sink.contents g.S.Sink.failed g.S.Sink.is_passed_on began reported own had left c.drive-writer.new.reader c.drive-writer.ensures.limits answer driven k (lacks_is ∙ is)))

pub returns-clause-all : goal.returns-clause-all
returns-clause-all g c none =
    let writer = c.args.writer in
    let began : ReportWritingBegan = record { report = writer.report; first = g.S.Sink.contents writer.output; failures = g.S.Sink.failed writer.output; window = writer.window } in
    let own = c.new-reader.result.limits in
    let had = g.R.Input.remaining c.args.input.now in
    let left = g.R.Input.remaining c.drive-writer.new.input in
    let reported = c.drive-writer.result.0 in
    let answer = c.drive-writer.result.1 in
    let driven = c.drive-writer.ensures.driven began (nothing_reported g.S.Sink.contents g.S.Sink.failed g.S.Sink.is_passed_on began writer own refl refl refl refl c.requires.none c.requires.has c.requires.limited) in
    let limits_are = ap (λ (r : ReaderView). r.limits) c.new-reader.ensures.fresh in
    let output_is = sym c.into_parts-output.ensures.output in
    let lacks_is = sym c.into_parts-output.ensures.lacks in
    sym lacks_is ∙ call_has g.S.Sink.contents g.S.Sink.failed g.S.Sink.is_passed_on began reported own had left c.drive-writer.new.reader c.drive-writer.ensures.limits answer driven none

pub returns-clause-passed : goal.returns-clause-passed
returns-clause-passed g c has =
    let writer = c.args.writer in
    let began : ReportWritingBegan = record { report = writer.report; first = g.S.Sink.contents writer.output; failures = g.S.Sink.failed writer.output; window = writer.window } in
    let own = c.new-reader.result.limits in
    let had = g.R.Input.remaining c.args.input.now in
    let left = g.R.Input.remaining c.drive-writer.new.input in
    let reported = c.drive-writer.result.0 in
    let answer = c.drive-writer.result.1 in
    let driven = c.drive-writer.ensures.driven began (nothing_reported g.S.Sink.contents g.S.Sink.failed g.S.Sink.is_passed_on began writer own refl refl refl refl c.requires.none c.requires.has c.requires.limited) in
    let limits_are = ap (λ (r : ReaderView). r.limits) c.new-reader.ensures.fresh in
    let output_is = sym c.into_parts-output.ensures.output in
    let lacks_is = sym c.into_parts-output.ensures.lacks in
    subst (λ o. OnOk answer (g.S.Sink.is_passed_on o)) output_is (call_passed g.S.Sink.contents g.S.Sink.failed g.S.Sink.is_passed_on began reported own had left c.drive-writer.new.reader c.drive-writer.ensures.limits answer driven (lacks_is ∙ has))
