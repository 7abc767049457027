use Rattle.std.proofs.Common.{◌≡◌, subst, sym, refl, Bool, true, false}
use Rattle.std.proofs.lemmas.Result.{err_from_is_err_and}
use Rattle.arrowflow_text.specs.Lines.{end_line}
use Rattle.arrowflow_text.specs.ReportWriting.{IsLastBy}
use Rattle.arrowflow_text.specs.declared.report.ReportKind.{ReportKind}
use Rattle.arrowflow_text.specs.declared.report.ReportKind.TheVariants.{Messages}
use Rattle.arrowflow_input.proofs.Beginnings.{begun_nothing}
use Rattle.arrowflow_text.proofs.report_writer.ReportWriter.put_ending.Goals as goal

-- the line of an input's end comes last
line_last : (marked : Bool) (report : ReportKind) (place : _) → marked ≡ false → report ≡ Messages → IsLastBy marked report place (end_line place)
line_last true report place unmarked is = absurd (cc)
line_last false report place unmarked is = subst (λ (r : ReportKind). IsLastBy false r place (end_line place)) (sym is) refl

-- no line was made, so none was sent
pub returns-in_err-end_line-in-Messages-clause-sent : goal.returns-in_err-end_line-in-Messages-clause-sent
returns-in_err-end_line-in-Messages-clause-sent g c =
    let place = c.args.reader.now.at.place in
    let failed = err_from_is_err_and c.from_residual.result c.from_residual.ensures.1 in
    rw (failed.1, failed.2) (end_line place, line_last c.args.marked c.args.self.now.report place c.if-not-marked.true c.in-Messages.is, (begun_nothing (g.S.Sink.contents c.args.self.now.output) (end_line place), refl))
