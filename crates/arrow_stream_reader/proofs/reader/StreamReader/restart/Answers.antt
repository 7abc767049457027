use Rattle.std.proofs.Common.{ap}
use Rattle.arrow_stream_reader.specs.Views.{plain}
use Rattle.arrow_stream_reader.specs.Decoder.{verdict_of}
use Rattle.arrow_stream_reader.proofs.Streams.{anew_position, waits_at_nothing}
use Rattle.arrow_stream_reader.proofs.reader.StreamReader.restart.Goals as goal

pub invariant_of-self : goal.invariant_of-self
invariant_of-self c = record {
  at = λ _. c.restart.ensures.at;
  waiting = λ _. waits_at_nothing c.restart.new.self c.restart.ensures.held;
  empty = λ _. c.restart.ensures.held;
}

pub returns-clause-start : goal.returns-clause-start
returns-clause-start c =
    let w = c.restart.new.self in
    anew_position w.limits (plain w.state) w.place w.held.items (verdict_of w.phase) c.restart.ensures.state c.restart.ensures.place c.restart.ensures.held (ap verdict_of c.restart.ensures.phase)
