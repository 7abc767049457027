use Rattle.std.proofs.Common.{rules, ◌≤◌, ◌+◌, ◌++◌, sym, ◌∙◌, subst, arith, Err}
use Rattle.std.proofs.KnownBytes.{Appends-trans}
use Rattle.std.proofs.lemmas.Result.{err_from_is_err_and}
use Rattle.arrow_json.specs.Lines.{AreLines, rows_between}
use Rattle.arrow_json.proofs.Rows.{lines_join, rows_join}
use Rattle.arrowflow_json.specs.Showing.{SendsLines}
use Rattle.arrowflow_json.proofs.Sent.{sends_after, three_parts}
use Rattle.arrowflow_json.proofs.sending.send_batch.Goals as goal

-- some rows were not sent completely
pub returns-in_err-send_rows : goal.returns-in_err-send_rows
returns-in_err-send_rows g c =
    let i = c.loop-start.invariant in
    let batch = c.args.batch.now in
    let start = c.loop-start.start in
    let next = start + c.min.result in
    let within : next ≤ batch.rows = search (rules, i.0, c.min.ensures, c.rows-end.ensures) in
    let before = g.S.Sink.contents c.args.output.now in
    let held = g.S.Sink.contents c.loop-start.output in
    let after = g.S.Sink.contents c.send_rows.new.output in
    let fault = c.in_err-send_rows.field-0.0 in
    let sent = sends_after fault (rows_between batch 0 start) (rows_between batch start next) (rows_between batch next batch.rows) before held after (g.S.Sink.failed c.args.output.now) (g.S.Sink.failed c.loop-start.output) (g.S.Sink.failed c.send_rows.new.output) i.1.0 i.1.1 i.1.2 i.2 c.in_err-send_rows.ensures in
    let failed = err_from_is_err_and c.from_residual.result c.from_residual.ensures.1 in
    rw (failed.1, failed.2)
    (subst (λ rows. SendsLines rows before (g.S.Sink.failed c.args.output.now) (Err fault) after (g.S.Sink.failed c.send_rows.new.output)) (sym (three_parts batch start next batch.rows (omega arith) within)) sent)

-- some more rows were sent
pub loop-start-preserved : goal.loop-start-preserved
loop-start-preserved g c =
    let i = c.loop-start.invariant in
    let batch = c.args.batch.now in
    let start = c.loop-start.start in
    let next = start + c.min.result in
    let within : next ≤ c.rows-end.result = search (rules, i.0, c.min.ensures) in
    let before = g.S.Sink.contents c.args.output.now in
    let sent = c.in_ok-send_rows.ensures in
    let are = subst (λ rows. AreLines rows (i.1.0 ++ sent.0)) (sym (rows_join batch 0 start next (omega arith) (omega arith))) (lines_join (rows_between batch 0 start) (rows_between batch start next) i.1.0 sent.0 i.1.1 sent.1) in
    (within, (i.1.0 ++ sent.0, are, Appends-trans before (g.S.Sink.contents c.loop-start.output) (g.S.Sink.contents c.send_rows.new.output) i.1.0 sent.0 i.1.2 sent.2.0), sent.2.1 ∙ i.2)
