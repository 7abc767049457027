use Rattle.std.proofs.Common.{rules, ◌≡◌, ◌≤◌, ◌+◌, ◌++◌, ap, sym, ◌∙◌, subst, arith}
use Rattle.std.proofs.lemmas.Result.{err_from_is_err_and}
use Rattle.std.proofs.KnownBytes.{Appends-trans}
use Rattle.arrow_csv.specs.Records.{AreBatchRows}
use Rattle.arrow_csv.proofs.Some.{rows_join}
use Rattle.arrowflow_input.proofs.Beginnings.{begun_all, begun_longer}
use Rattle.arrowflow_text.proofs.Sent.{cut_after, rows_go_on}
use Rattle.arrowflow_text.proofs.sending.send_rows.Goals as goal

-- an allocation failed: the rows before were sent
pub returns-in_err-push : goal.returns-in_err-push
returns-in_err-push g c =
    let i = c.loop-start.invariant in
    let before = g.S.Sink.contents c.args.output.now in
    let held = g.S.Sink.contents c.loop-start.output in
    let rest = rows_go_on c.args.rows.now.form c.args.rows.now.number c.args.rows.now.batch c.args.range.start c.loop-start.start c.args.range.end i.2.0 i.0 i.1 i.2.1 in
    let failed = err_from_is_err_and c.from_residual.result c.from_residual.ensures.1 in
    rw (failed.1, failed.2) (i.2.0 ++ rest.0, rest.1, (begun_longer before held i.2.0 rest.0 (begun_all before held i.2.0 i.2.2), i.3))

-- a prefix of some more rows was sent
pub returns-in_err-send_text : goal.returns-in_err-send_text
returns-in_err-send_text g c =
    let i = c.loop-start.invariant in
    let form = c.args.rows.now.form in
    let number = c.args.rows.now.number in
    let batch = c.args.rows.now.batch in
    let first = c.args.range.start in
    let start = c.loop-start.start in
    let next = start + c.min.result in
    let within : next ≤ c.args.range.end = search (rules, i.1, c.min.ensures) in
    let text = c.deref.result.now in
    let put = c.in_ok-push.ensures.ok in
    let same : text ≡ put.0 = c.deref.ensures.value ∙ put.2 ∙ ap (λ t. t ++ put.0) c.clear.ensures.items in
    let reported : AreBatchRows form number batch first next (i.2.0 ++ text) = rows_join form number batch first start next i.2.0 text i.0 (omega arith) i.2.1 (subst (AreBatchRows form number batch start next) (sym same) put.1) in
    let rest = rows_go_on form number batch first next c.args.range.end (i.2.0 ++ text) (omega (arith, i.0)) within reported in
    let failed = err_from_is_err_and c.from_residual-in_err-send_text.result c.from_residual-in_err-send_text.ensures.1 in
    rw (failed.1, failed.2)
    ((i.2.0 ++ text) ++ rest.0, rest.1, cut_after c.in_err-send_text.field-0.0 (g.S.Sink.contents c.args.output.now) (g.S.Sink.contents c.loop-start.output) _ _ _ _ i.2.0 text rest.0 i.2.2 i.3 c.in_err-send_text.ensures)

-- some more rows were sent
pub loop-start-preserved : goal.loop-start-preserved
loop-start-preserved g c =
    let i = c.loop-start.invariant in
    let form = c.args.rows.now.form in
    let number = c.args.rows.now.number in
    let batch = c.args.rows.now.batch in
    let first = c.args.range.start in
    let start = c.loop-start.start in
    let next = start + c.min.result in
    let within : next ≤ c.args.range.end = search (rules, i.1, c.min.ensures) in
    let before = g.S.Sink.contents c.args.output.now in
    let after = g.S.Sink.contents c.send_text.new.output in
    let text = c.deref.result.now in
    let put = c.in_ok-push.ensures.ok in
    let same : text ≡ put.0 = c.deref.ensures.value ∙ put.2 ∙ ap (λ t. t ++ put.0) c.clear.ensures.items in
    let reported : AreBatchRows form number batch first next (i.2.0 ++ text) = rows_join form number batch first start next i.2.0 text i.0 (omega arith) i.2.1 (subst (AreBatchRows form number batch start next) (sym same) put.1) in
    (omega (arith, i.0), within, (i.2.0 ++ text, reported, Appends-trans before (g.S.Sink.contents c.loop-start.output) after i.2.0 text i.2.2 c.in_ok-send_text.ensures.0), c.in_ok-send_text.ensures.1 ∙ i.3)
