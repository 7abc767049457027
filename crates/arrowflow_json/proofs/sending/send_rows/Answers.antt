use Rattle.std.proofs.Common.{sym, subst}
use Rattle.std.proofs.lemmas.Result.{err_from_is_err_and}
use Rattle.arrow_json.specs.Lines.{AreLines, rows_between}
use Rattle.arrowflow_json.proofs.Sent.{sends_nothing, sends_text}
use Rattle.arrowflow_json.proofs.sending.send_rows.Goals as goal

-- the allocation for their text failed
pub returns-in_err-text : goal.returns-in_err-text
returns-in_err-text g c =
    let failed = err_from_is_err_and c.from_residual.result c.from_residual.ensures.1 in
    rw (failed.1, failed.2) (sends_nothing (rows_between c.args.batch.now c.args.rows.start c.args.rows.end) (g.S.Sink.contents c.args.output.now) (g.S.Sink.failed c.args.output.now))

-- their text was sent
pub returns : goal.returns
returns g c =
    let rows = rows_between c.args.batch.now c.args.rows.start c.args.rows.end in
    let are = subst (AreLines rows) (sym c.deref.ensures.value) c.in_ok-text.ensures in
    sends_text rows c.deref.result.now (g.S.Sink.contents c.args.output.now) (g.S.Sink.contents c.send_text.new.output) (g.S.Sink.failed c.args.output.now) (g.S.Sink.failed c.send_text.new.output) c.send_text.result are c.send_text.ensures
