use Rattle.std.proofs.Common.{◌++◌, ◌∙◌, ap, length, string_bytes}
use Rattle.arrowflow_session.specs.Report.{reported_by}
use Rattle.arrowflow_drill.specs.Lines.{handed_line}
use Rattle.arrowflow_drill.proofs.Lined.{five_after}
use Rattle.arrowflow_drill.proofs.lines.push_connection.Goals as goal

pub returns : goal.returns
returns c =
    let reported = reported_by c.args.outcome.report.now in
    let counted = ap (λ batches. string_bytes c.push_refusals.new.text ++ handed_line c.args.number reported.handed (length batches)) c.deref.ensures.value in
    five_after _ _ _ _ _ _ _ _ _ _ _ _ c.in_ok-push_written.ensures c.in_ok-push_refusals.ensures (c.in_ok-push_handed.ensures ∙ counted) c.in_ok-push_dictionaries.ensures c.push_ending.ensures
