use Rattle.arrow_stream_reader.proofs.Always.{none_without}
use Rattle.arrow_stream_reader.proofs.laws.a_front.Goals as goal

pub returns : goal.returns
returns c = record { some = none_without }
