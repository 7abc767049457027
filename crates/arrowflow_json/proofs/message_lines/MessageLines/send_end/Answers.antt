use Rattle.std.proofs.Common.{refl}
use Rattle.std.proofs.lemmas.Result.{err_from_is_err_and}
use Rattle.arrowflow_input.proofs.Beginnings.{begun_nothing}
use Rattle.arrowflow_json.specs.Fields.{name_by}
use Rattle.arrowflow_json.proofs.Checking.{some_last}
use Rattle.arrowflow_json.proofs.message_lines.MessageLines.send_end.Goals as goal

-- the allocation for the line failed
pub returns-in_err-line : goal.returns-in_err-line
returns-in_err-line g c =
    let last = some_last (name_by c.args.self.now.file) c.args.marked c.args.reader.now.at.place in
    let failed = err_from_is_err_and c.from_residual.result c.from_residual.ensures.1 in
    rw (failed.1, failed.2) (last.0, last.1, (begun_nothing (g.S.Sink.contents c.args.self.now.output) last.0, refl))
