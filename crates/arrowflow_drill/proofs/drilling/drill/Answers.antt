use Rattle.std.proofs.Common.{◌≡◌, length}
use Rattle.arrowflow_drill.proofs.Inputs.{reports_length}
use Rattle.arrowflow_drill.proofs.drilling.drill.Goals as goal

pub text_of-requires : goal.text_of-requires
text_of-requires g c =
    let long : length c.in_ok-reports.reports.items ≡ length c.rehearse.new.connections = reports_length c.args.limits.now c.rehearse.new.connections c.in_ok-reports.reports.items c.in_ok-reports.ensures.reports in
    cc
