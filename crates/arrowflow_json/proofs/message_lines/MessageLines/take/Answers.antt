use Rattle.std.proofs.Common.{◌≡◌, Err, refl, sym, subst}
use Rattle.std.proofs.lemmas.Result.{err_from_is_err_and}
use Rattle.arrow_json.specs.Lines.{line_of}
use Rattle.arrow_stream_reader.specs.Views.{given}
use Rattle.arrowflow_input.specs.Endings.{SendsText}
use Rattle.arrowflow_input.specs.declared.tool_fault.ToolFault.TheVariants.{Memory}
use Rattle.arrowflow_input.proofs.Beginnings.{begun_nothing}
use Rattle.arrowflow_json.specs.Fields.{name_by}
use Rattle.arrowflow_json.specs.Messages.{message_json}
use Rattle.arrowflow_json.proofs.message_lines.MessageLines.take.Goals as goal

-- a batch that cannot be counted is not written
pub returns-in_err-before-clause-sent : goal.returns-in_err-before-clause-sent
returns-in_err-before-clause-sent g c =
    let own = c.args.self.now in
    let state = c.args.reader.now.at.state in
    let line = line_of (message_json (name_by own.file) c.args.place own.number state (given c.args.item.now)) in
    let held = g.S.Sink.contents own.output in
    let failed = g.S.Sink.failed own.output in
    let fault = err_from_is_err_and c.from_residual.result c.from_residual.ensures.1 in
    let is : c.in_err-before.field-0.0 ≡ Memory = c.in_err-before.ensures.memory in
    rw (fault.1, fault.2) (
      line,
      (state, refl, refl),
      subst (λ o. SendsText held failed line (Err c.in_err-before.field-0.0) (g.S.Sink.contents o) (g.S.Sink.failed o)) (sym c.in_err-before.ensures.output)
          (subst (λ f. SendsText held failed line (Err f) held failed) (sym is) (begun_nothing held line, refl)),
    )
