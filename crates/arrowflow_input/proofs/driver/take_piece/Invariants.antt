use Rattle.std.proofs.Common.{◌≡◌, length}
use Rattle.arrow_stream_reader.specs.declared.reader.Verdict.TheVariants.{Open}
use Rattle.arrowflow_input.proofs.Driving.{IsTaking}
use Rattle.arrowflow_input.proofs.driver.take_piece.Given as goal

-- all of the piece but the tail was given, the consumer asks for more, and a stream that was open goes on
abbrev pub invariant-loop-taken : goal.invariant-loop-taken
invariant-loop-taken g l = IsTaking g.C.Consumer.keeps l.fn.consumer l.initial.reader l.piece l.reader l.consumer l.rest
    × (l.initial.reader.at.verdict ≡ Open → l.reader.at.verdict ≡ Open)
    × g.C.Consumer.is_ready l.consumer

abbrev pub decreases-loop-taken : goal.decreases-loop-taken
decreases-loop-taken g l = length l.rest
