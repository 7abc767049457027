use Rattle.std.proofs.Common.{◌≡◌, Err, refl, sym, subst}
use Rattle.std.proofs.lemmas.Result.{err_from_is_err_and}
use Rattle.arrow_csv.specs.Named.{chosen_schema}
use Rattle.arrow_stream_reader.specs.Views.{given}
use Rattle.arrowflow_text.specs.Chosen.{choice_of, chosen_given, form_of}
use Rattle.arrowflow_input.specs.Endings.{SendsText}
use Rattle.arrowflow_input.specs.declared.tool_fault.ToolFault.TheVariants.{Memory}
use Rattle.arrowflow_input.proofs.Beginnings.{begun_nothing}
use Rattle.arrowflow_text.proofs.Sent.{some_part}
use Rattle.arrowflow_text.proofs.report_writer.ReportWriter.put_part.Goals as goal

-- nothing is written of a batch that cannot be counted
pub returns-in_err-number-clause-sent : goal.returns-in_err-number-clause-sent
returns-in_err-number-clause-sent g c =
    let report = c.args.self.now.report in
    let choice = choice_of report in
    let text = some_part (form_of report) c.args.window (chosen_schema choice c.args.message.reader.now.at.state.schema) c.args.self.now.number (chosen_given choice (given c.args.message.item.now)) in
    let held = g.S.Sink.contents c.args.self.now.output in
    let failed = g.S.Sink.failed c.args.self.now.output in
    let fault = err_from_is_err_and c.from_residual.result c.from_residual.ensures.1 in
    let is : c.in_err-number.field-0.0 ≡ Memory = c.in_err-number.ensures.memory in
    rw (fault.1, fault.2) (
      text.0,
      text.1,
      subst (λ o. SendsText held failed text.0 (Err c.in_err-number.field-0.0) (g.S.Sink.contents o) (g.S.Sink.failed o)) (sym c.in_err-number.ensures.output)
          (subst (λ f. SendsText held failed text.0 (Err f) held failed) (sym is) (begun_nothing held text.0, refl)),
    )

-- nothing is written of a batch if an allocation for its columns failed
pub returns-in_err-texts-in-Batch-clause-sent : goal.returns-in_err-texts-in-Batch-clause-sent
returns-in_err-texts-in-Batch-clause-sent g c =
    let report = c.args.self.now.report in
    let choice = choice_of report in
    let text = some_part (form_of report) c.args.window (chosen_schema choice c.args.message.reader.now.at.state.schema) c.args.self.now.number (chosen_given choice (given c.args.message.item.now)) in
    let held = g.S.Sink.contents c.args.self.now.output in
    let failed = g.S.Sink.failed c.args.self.now.output in
    let fault = err_from_is_err_and c.from_residual-in_err-texts-in-Batch.result c.from_residual-in_err-texts-in-Batch.ensures.1 in
    rw (fault.1, fault.2) (text.0, text.1, subst (λ o. SendsText held failed text.0 (Err Memory) (g.S.Sink.contents o) (g.S.Sink.failed o)) (sym c.in_ok-number.ensures.output) (begun_nothing held text.0, refl))
