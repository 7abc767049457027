use Rattle.std.proofs.Common.{string_bytes, arith}
use Rattle.arrowflow_drill.proofs.Lined.{reported_more}
use Rattle.arrowflow_drill.proofs.drilling.text_of.Goals as goal

pub loop-number-preserved : goal.loop-number-preserved
loop-number-preserved c =
    let l = c.loop-number in
    reported_more c.args.piece l.number c.args.connections.now c.args.reports.now c.index-connections-number.result c.index-reports-number.result (string_bytes l.text) (string_bytes c.push_connection.new.text) c.requires (omega arith) c.index-connections-number.is c.index-reports-number.is l.invariant c.in_ok-push_connection.ensures
