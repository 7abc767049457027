use Rattle.std.proofs.Common.{◌≡◌, ◌<◌, length, arith}
use Rattle.std.proofs.lemmas.Result.{err_from_is_err_and}
use Rattle.arrowflow_drill.specs.DrillOptions.{asks_of}
use Rattle.arrowflow_drill.proofs.Inputs.{read_next, rest_same, stopped_here}
use Rattle.arrowflow_drill.proofs.Reported.{ended_well}
use Rattle.arrowflow_drill.proofs.reading.read_all.Goals as goal

pub loop-number-preserved : goal.loop-number-preserved
loop-number-preserved g c =
    let l = c.loop-number in
    let low : l.number < length l.inputs = omega arith in
    let long : length l.inputs ≡ length c.args.inputs.now = omega arith in
    let rem = g.R.Input.remaining in
    let fails = g.R.Input.has_failed in
    let asks = asks_of c.args.terms.now in
    let well = ended_well c.push.result c.map_err.result c.map_err.ensures.variant c.in_ok-map_err.was in
    let pushed = rw well at c.push.ensures.items in (
      read_next rem fails asks l.number c.args.inputs.now l.inputs c.index-inputs-number.result c.read_one.new.input low long l.invariant.1 l.connections.items c.push.new.self.items c.in_ok-connection.connection pushed l.invariant.0 c.in_ok-connection.ensures,
      rest_same rem fails asks l.number c.args.inputs.now l.inputs c.index-inputs-number.result c.read_one.new.input low long l.invariant.1,
    )

pub returns-in_err-connection : goal.returns-in_err-connection
returns-in_err-connection g c =
    let l = c.loop-number in
    let low : l.number < length l.inputs = omega arith in
    let long : length l.inputs ≡ length c.args.inputs.now = omega arith in
    let failed = err_from_is_err_and c.from_residual.result c.from_residual.ensures.1 in
    rw (failed.1, failed.2) (stopped_here g.R.Input.remaining g.R.Input.has_failed (asks_of c.args.terms.now) l.number c.args.inputs.now l.inputs c.index-inputs-number.result c.read_one.new.input low long l.invariant.1 _ c.in_err-connection.field-0.0 l.invariant.0 c.in_err-connection.ensures)
