use Rattle.std.proofs.Common.{refl}
use Rattle.std.proofs.lemmas.Result.{err_from_is_err_and}
use Rattle.arrow_csv.specs.Layouts.{form_by}
use Rattle.arrow_csv.specs.Named.{choice_by, chosen_schema}
use Rattle.arrow_stream_reader.specs.Views.{given}
use Rattle.arrowflow_text.specs.Chosen.{chosen_given}
use Rattle.arrowflow_input.proofs.Beginnings.{begun_nothing}
use Rattle.arrowflow_text.proofs.Sent.{some_in}
use Rattle.arrowflow_text.proofs.report_writer.ReportWriter.put_rows.Goals as goal

-- nothing is reported of a batch if an allocation for its columns failed
pub returns-in_err-texts-in-Batch-clause-sent : goal.returns-in_err-texts-in-Batch-clause-sent
returns-in_err-texts-in-Batch-clause-sent g c =
    let choice = choice_by c.args.layout.columns in
    let text = some_in (form_by c.args.layout) (chosen_schema choice c.args.message.reader.now.at.state.schema) c.args.number (chosen_given choice (given c.args.message.item.now)) in
    let held = g.S.Sink.contents c.args.self.now.output in
    let failed = err_from_is_err_and c.from_residual.result c.from_residual.ensures.1 in
    rw (failed.1, failed.2) (text.0, text.1, (begun_nothing held text.0, refl))
