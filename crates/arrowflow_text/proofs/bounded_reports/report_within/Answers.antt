use Rattle.std.proofs.Common.{◌≡◌, None, refl, sym, ap, subst, ◌∙◌}
use Rattle.std.specs.Prelude.{OnOk}
use Rattle.arrow_stream_reader.specs.Stream.{ReaderView}
use Rattle.arrowflow_text.specs.Chosen.{choice_of, form_of}
use Rattle.arrowflow_text.specs.Columns.{LacksInput}
use Rattle.arrowflow_input.specs.Within.{left_of}
use Rattle.arrowflow_text.specs.WithinCalls.{ReportsWithin, ShowsWindowWithin}
use Rattle.arrowflow_text.proofs.Bounding.{reported_all, reported_has, reported_lacks, reported_passed, reported_window}
use Rattle.arrowflow_text.proofs.bounded_reports.report_within.Goals as goal

pub returns-clause-written : goal.returns-clause-written
returns-clause-written g c has all =
    let writer = c.args.writer in
    let whole = c.args.input.now.whole in
    let excess = c.drive_within-writer.new.input.excess in
    let own = c.new-reader.result.limits in
    let had = left_of g.R.Input.remaining c.args.input.now in
    let left = left_of g.R.Input.remaining c.drive_within-writer.new.input in
    let reported = c.drive_within-writer.result.0 in
    let answer = c.drive_within-writer.result.1 in
    let limits_are = ap (λ (r : ReaderView). r.limits) c.new-reader.ensures.fresh in
    let output_is = sym c.into_parts-output.ensures.output in
    let lacks_is = sym c.into_parts-output.ensures.lacks in
    subst (λ o. ReportsWithin writer.report whole c.args.limits.now had left excess (g.S.Sink.contents writer.output) (g.S.Sink.failed writer.output) answer (g.S.Sink.contents o) (g.S.Sink.failed o)) output_is
    (subst (λ l. ReportsWithin writer.report whole l had left excess (g.S.Sink.contents writer.output) (g.S.Sink.failed writer.output) answer (g.S.Sink.contents reported.output) (g.S.Sink.failed reported.output)) limits_are
    (reported_all g.S.Sink.contents g.S.Sink.failed g.S.Sink.is_passed_on writer c.requires.none c.requires.has c.requires.limited reported whole own had left c.drive_within-writer.new.reader c.drive_within-writer.ensures.limits answer excess c.drive_within-writer.ensures.driven (lacks_is ∙ has) all))

pub returns-clause-first : goal.returns-clause-first
returns-clause-first g c has n some =
    let writer = c.args.writer in
    let whole = c.args.input.now.whole in
    let excess = c.drive_within-writer.new.input.excess in
    let own = c.new-reader.result.limits in
    let had = left_of g.R.Input.remaining c.args.input.now in
    let left = left_of g.R.Input.remaining c.drive_within-writer.new.input in
    let reported = c.drive_within-writer.result.0 in
    let answer = c.drive_within-writer.result.1 in
    let limits_are = ap (λ (r : ReaderView). r.limits) c.new-reader.ensures.fresh in
    let output_is = sym c.into_parts-output.ensures.output in
    let lacks_is = sym c.into_parts-output.ensures.lacks in
    subst (λ o. ShowsWindowWithin (form_of writer.report) (choice_of writer.report) n whole c.args.limits.now had left excess (g.S.Sink.contents writer.output) (g.S.Sink.failed writer.output) answer (g.S.Sink.contents o) (g.S.Sink.failed o)) output_is
    (subst (λ l. ShowsWindowWithin (form_of writer.report) (choice_of writer.report) n whole l had left excess (g.S.Sink.contents writer.output) (g.S.Sink.failed writer.output) answer (g.S.Sink.contents reported.output) (g.S.Sink.failed reported.output)) limits_are
    (reported_window g.S.Sink.contents g.S.Sink.failed g.S.Sink.is_passed_on writer c.requires.none c.requires.has c.requires.limited reported whole own had left c.drive_within-writer.new.reader c.drive_within-writer.ensures.limits answer excess c.drive_within-writer.ensures.driven (lacks_is ∙ has) n some))

pub returns-clause-lacks : goal.returns-clause-lacks
returns-clause-lacks g c k is =
    let writer = c.args.writer in
    let whole = c.args.input.now.whole in
    let excess = c.drive_within-writer.new.input.excess in
    let own = c.new-reader.result.limits in
    let had = left_of g.R.Input.remaining c.args.input.now in
    let left = left_of g.R.Input.remaining c.drive_within-writer.new.input in
    let reported = c.drive_within-writer.result.0 in
    let answer = c.drive_within-writer.result.1 in
    let limits_are = ap (λ (r : ReaderView). r.limits) c.new-reader.ensures.fresh in
    let output_is = sym c.into_parts-output.ensures.output in
    let lacks_is = sym c.into_parts-output.ensures.lacks in
    let lacks = reported_lacks g.S.Sink.contents g.S.Sink.failed g.S.Sink.is_passed_on writer c.requires.none c.requires.has c.requires.limited reported whole own had left c.drive_within-writer.new.reader c.drive_within-writer.ensures.limits answer excess c.drive_within-writer.ensures.driven k (lacks_is ∙ is) in (
      subst (λ o. LacksInput (choice_of writer.report) c.args.limits.now had left (g.S.Sink.contents writer.output) (g.S.Sink.failed writer.output) k (g.S.Sink.contents o) (g.S.Sink.failed o)) output_is
          (subst (λ l. LacksInput (choice_of writer.report) l had left (g.S.Sink.contents writer.output) (g.S.Sink.failed writer.output) k (g.S.Sink.contents reported.output) (g.S.Sink.failed reported.output)) limits_are lacks.0),
      lacks.1,
    )

pub returns-clause-all : goal.returns-clause-all
returns-clause-all g c none =
    let writer = c.args.writer in
    let whole = c.args.input.now.whole in
    let excess = c.drive_within-writer.new.input.excess in
    let own = c.new-reader.result.limits in
    let had = left_of g.R.Input.remaining c.args.input.now in
    let left = left_of g.R.Input.remaining c.drive_within-writer.new.input in
    let reported = c.drive_within-writer.result.0 in
    let answer = c.drive_within-writer.result.1 in
    let limits_are = ap (λ (r : ReaderView). r.limits) c.new-reader.ensures.fresh in
    let output_is = sym c.into_parts-output.ensures.output in
    let lacks_is = sym c.into_parts-output.ensures.lacks in
    sym lacks_is ∙ reported_has g.S.Sink.contents g.S.Sink.failed g.S.Sink.is_passed_on writer c.requires.none c.requires.has c.requires.limited reported whole own had left c.drive_within-writer.new.reader c.drive_within-writer.ensures.limits answer excess c.drive_within-writer.ensures.driven none

pub returns-clause-passed : goal.returns-clause-passed
returns-clause-passed g c has =
    let writer = c.args.writer in
    let whole = c.args.input.now.whole in
    let excess = c.drive_within-writer.new.input.excess in
    let own = c.new-reader.result.limits in
    let had = left_of g.R.Input.remaining c.args.input.now in
    let left = left_of g.R.Input.remaining c.drive_within-writer.new.input in
    let reported = c.drive_within-writer.result.0 in
    let answer = c.drive_within-writer.result.1 in
    let limits_are = ap (λ (r : ReaderView). r.limits) c.new-reader.ensures.fresh in
    let output_is = sym c.into_parts-output.ensures.output in
    let lacks_is = sym c.into_parts-output.ensures.lacks in
    subst (λ o. OnOk answer (g.S.Sink.is_passed_on o)) output_is (reported_passed g.S.Sink.contents g.S.Sink.failed g.S.Sink.is_passed_on writer c.requires.none c.requires.has c.requires.limited reported whole own had left c.drive_within-writer.new.reader c.drive_within-writer.ensures.limits answer excess c.drive_within-writer.ensures.driven (lacks_is ∙ has) c.drive_within-writer.ensures.excess)
