use Rattle.std.proofs.Common.{◌+◌, ◌++◌, false, sym, ap, ◌∙◌}
use Rattle.arrow_stream_reader.specs.Tables.{table_in}
use Rattle.arrow_stream_reader.specs.Views.{given}
use Rattle.arrowflow_calls.specs.Survey.{counts_of, reported}
use Rattle.arrowflow_calls.proofs.Surveying.{one_more}
use Rattle.arrowflow_calls.proofs.scan.StreamCounts.add.Goals as goal

pub returns-in-Batch : goal.returns-in-Batch
returns-in-Batch c tables are =
    let old = c.args.self.now in
    let rows = c.saturating_add-self-in-Batch in
    one_more tables c.in-Batch.batch old c.saturating_add-self.result rows.result are c.saturating_add-self.ensures (rows.ensures ∙ ap (λ n. reported (old.rows + n)) c.rows.ensures)
    ∙ ap (λ item. counts_of (tables ++ table_in (given item)) false) (sym c.in-Batch.is)
