use Rattle.std.proofs.Common.{[], refl}
use Rattle.arrowflow_json.specs.Shows.{rows_form}
use Rattle.arrowflow_json.proofs.Showing.{rows_fit}
use Rattle.arrowflow_json.proofs.Writing.{end_written}
use Rattle.arrowflow_json.proofs.row_lines.RowLinesConsumer.end.Goals as goal

-- the output was flushed
pub returns-clause-ends : goal.returns-clause-ends
returns-clause-ends g c began bytes left es ended x =
    let before = c.args.self.output in
    let after = c.flush-answer.new.output in (
      end_written rows_form rows_fit began (g.S.Sink.contents before) (g.S.Sink.contents after) (g.S.Sink.failed before) (g.S.Sink.failed after) c.args._marked c.args._reader.now bytes left es ended x [] refl c.flush-answer.result c.flush-answer.ensures.kept,
      c.flush-answer.ensures.passed,
    )
