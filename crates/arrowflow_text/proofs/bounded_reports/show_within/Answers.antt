use Rattle.std.proofs.Common.{◌≡◌, Some, Err, sym, subst}
use Rattle.std.specs.Prelude.{IfSome}
use Rattle.arrowflow_text.specs.Chosen.{choice_of, form_of}
use Rattle.arrowflow_text.specs.Columns.{LacksInput, window_of}
use Rattle.arrowflow_input.specs.Within.{left_of}
use Rattle.arrowflow_text.specs.WithinCalls.{ShowsWindowWithin, ShowsWithin}
use Rattle.arrowflow_text.specs.declared.columns.ColumnsFault.TheVariants.{Tool}
use Rattle.arrowflow_text.specs.declared.report.ReportKind.{ReportKind}
use Rattle.arrowflow_text.specs.declared.report.ReportKind.TheVariants.{Rows}
use Rattle.arrowflow_input.specs.declared.tool_fault.ToolFault.TheVariants.{Input}
use Rattle.arrowflow_text.proofs.Chosen.{selection_stops, selection_within}
use Rattle.arrowflow_text.proofs.bounded_reports.show_within.Goals as goal

pub returns-clause-written : goal.returns-clause-written
returns-clause-written g c =
    let s = c.args.selection.now in
    let limits = c.args.limits.now in
    let writer = c.new-writer.result in
    let whole = c.args.input.now.whole in
    let excess = c.report_within-output.new.input.excess in
    let had = left_of g.R.Input.remaining c.args.input.now in
    let left = left_of g.R.Input.remaining c.report_within-output.new.input in
    let answer = c.report_within-output.result.2 in
    let after = g.S.Sink.contents c.report_within-output.result.0 in
    let failed = g.S.Sink.failed c.report_within-output.result.0 in
    let rows : ReportKind = Rows s.layout in
    let report_is : writer.report ≡ rows = c.new-writer.ensures.report in
    let output_is : writer.output ≡ c.args.output = c.new-writer.ensures.output in
    let window_is : writer.window ≡ Some (window_of s) = c.new-writer.ensures.window in
    let shown = selection_within s whole limits had left excess (g.S.Sink.contents c.args.output) (g.S.Sink.failed c.args.output) answer after failed c.report_within-output.result.1
    (λ has. subst (λ o. ShowsWindowWithin (form_of rows) (choice_of rows) (window_of s) whole limits had left excess (g.S.Sink.contents o) (g.S.Sink.failed o) answer after failed) output_is
    (subst (λ p. ShowsWindowWithin (form_of p) (choice_of p) (window_of s) whole limits had left excess (g.S.Sink.contents writer.output) (g.S.Sink.failed writer.output) answer after failed) report_is
    (c.report_within-output.ensures.first has (window_of s) window_is)))
    (λ k lacks. let lack = c.report_within-output.ensures.lacks k lacks in (
      subst (λ o. LacksInput (choice_of rows) limits had left (g.S.Sink.contents o) (g.S.Sink.failed o) k after failed) output_is
          (subst (λ p. LacksInput (choice_of p) limits had left (g.S.Sink.contents writer.output) (g.S.Sink.failed writer.output) k after failed) report_is lack.0),
      lack.1,
    )) in
    subst (λ a. ShowsWithin s whole limits had left excess (g.S.Sink.contents c.args.output) (g.S.Sink.failed c.args.output) a after failed) (sym c.answer_by_lack.ensures) shown

pub returns-clause-excess : goal.returns-clause-excess
returns-clause-excess g c =
    let excess = c.report_within-output.new.input.excess in
    subst (λ a. IfSome excess (λ x. a ≡ Err (Tool (Input 0)))) (sym c.answer_by_lack.ensures)
    (selection_stops c.report_within-output.result.1 excess c.report_within-output.result.2 (λ k lacks. (c.report_within-output.ensures.lacks k lacks).1) c.report_within-output.ensures.excess)
