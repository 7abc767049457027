use Rattle.arrow_stream_reader.proofs.Fronts.{one_front}
use Rattle.arrow_stream_laws.proofs.Starts.{stream_begins}
use Rattle.arrow_stream_laws.proofs.laws.frames_of_a_beginning.Goals as goal

pub returns : goal.returns
returns c = record {
  single = λ limits b es fs e f x y. one_front x y;
  begins = λ limits b es e n front within. stream_begins n front within;
}
