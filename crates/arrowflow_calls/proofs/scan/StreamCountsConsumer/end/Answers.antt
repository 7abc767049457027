use Rattle.std.proofs.Common.{refl, ap, ◌∙◌}
use Rattle.arrow_stream_reader.specs.Tables.{tables_of}
use Rattle.arrowflow_calls.specs.Survey.{counts_of}
use Rattle.arrowflow_calls.specs.declared.scan.StreamCounts.{StreamCounts}
use Rattle.arrowflow_calls.proofs.Surveying.{done_by}
use Rattle.arrowflow_calls.proofs.scan.StreamCountsConsumer.end.Goals as goal

pub returns-clause-ends : goal.returns-clause-ends
returns-clause-ends c start bytes left es ended are =
    let marked = c.args.marked in
    let counted = ap (λ (n : StreamCounts). record n { ended = marked }) are ∙ ap (counts_of (tables_of es)) (done_by marked c.args._reader.now.at.verdict ended.ended_by) in
    (refl, record { entries = es; position = ended.position; counted = counted })
