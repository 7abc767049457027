use Rattle.std.proofs.Common.{◌≡◌, Err, refl, sym, subst}
use Rattle.std.proofs.lemmas.Result.{err_from_is_err_and}
use Rattle.arrow_stream_reader.specs.Views.{given}
use Rattle.arrowflow_input.specs.Endings.{SendsText}
use Rattle.arrowflow_input.specs.declared.tool_fault.ToolFault.TheVariants.{Memory}
use Rattle.arrowflow_input.proofs.Beginnings.{begun_nothing}
use Rattle.arrowflow_text.proofs.Sent.{some_added}
use Rattle.arrowflow_text.proofs.report_writer.ReportWriter.put_whole.Goals as goal

-- a batch that cannot be counted is not reported
pub returns-in_err-number-clause-sent : goal.returns-in_err-number-clause-sent
returns-in_err-number-clause-sent g c =
    let text = some_added c.args.self.now.report c.args.message.reader.now.at.state.schema c.args.message.place c.args.self.now.number (given c.args.message.item.now) c.requires.chosen in
    let held = g.S.Sink.contents c.args.self.now.output in
    let failed = g.S.Sink.failed c.args.self.now.output in
    let fault = err_from_is_err_and c.from_residual.result c.from_residual.ensures.1 in
    let is : c.in_err-number.field-0.0 ≡ Memory = c.in_err-number.ensures.memory in
    rw (fault.1, fault.2) (
      text.0,
      text.1,
      subst (λ o. SendsText held failed text.0 (Err c.in_err-number.field-0.0) (g.S.Sink.contents o) (g.S.Sink.failed o)) (sym c.in_err-number.ensures.output)
          (subst (λ f. SendsText held failed text.0 (Err f) held failed) (sym is) (begun_nothing held text.0, refl)),
    )
