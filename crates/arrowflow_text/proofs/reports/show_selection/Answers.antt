use Rattle.std.proofs.Common.{◌≡◌, Some, sym, subst}
use Rattle.arrowflow_text.specs.Chosen.{AreRows, choice_of, form_of}
use Rattle.arrowflow_text.specs.Columns.{LacksInput, ShowsSelection, window_of}
use Rattle.arrowflow_text.specs.Windows.{ShowsWindowOf}
use Rattle.arrowflow_text.specs.declared.report.ReportKind.{ReportKind}
use Rattle.arrowflow_text.specs.declared.report.ReportKind.TheVariants.{Rows}
use Rattle.arrowflow_text.proofs.Chosen.{selection_shown}
use Rattle.arrowflow_text.proofs.reports.show_selection.Goals as goal

pub returns-clause-written : goal.returns-clause-written
returns-clause-written g c =
    let s = c.args.selection.now in
    let limits = c.args.limits.now in
    let writer = c.new-writer.result in
    let had = g.R.Input.remaining c.args.input.now in
    let left = g.R.Input.remaining c.report-output.new.input in
    let answer = c.report-output.result.2 in
    let after = g.S.Sink.contents c.report-output.result.0 in
    let failed = g.S.Sink.failed c.report-output.result.0 in
    let rows : ReportKind = Rows s.layout in
    let report_is : writer.report ≡ rows = c.new-writer.ensures.report in
    let output_is : writer.output ≡ c.args.output = c.new-writer.ensures.output in
    let window_is : writer.window ≡ Some (window_of s) = c.new-writer.ensures.window in
    let shown = selection_shown s limits had left (g.S.Sink.contents c.args.output) (g.S.Sink.failed c.args.output) answer after failed c.report-output.result.1
    (λ has. subst (λ o. ShowsWindowOf (form_of rows) (choice_of rows) (window_of s) limits had left (g.S.Sink.contents o) (g.S.Sink.failed o) answer after failed) output_is
    (subst (λ p. ShowsWindowOf (form_of p) (choice_of p) (window_of s) limits had left (g.S.Sink.contents writer.output) (g.S.Sink.failed writer.output) answer after failed) report_is
    (c.report-output.ensures.first has (subst AreRows (sym report_is) tt) (window_of s) window_is)))
    (λ k lacks. subst (λ o. LacksInput (choice_of rows) limits had left (g.S.Sink.contents o) (g.S.Sink.failed o) k after failed) output_is
    (subst (λ p. LacksInput (choice_of p) limits had left (g.S.Sink.contents writer.output) (g.S.Sink.failed writer.output) k after failed) report_is (c.report-output.ensures.lacks k lacks))) in
    subst (λ a. ShowsSelection s limits had left (g.S.Sink.contents c.args.output) (g.S.Sink.failed c.args.output) a after failed) (sym c.answer_by_lack.ensures) shown
