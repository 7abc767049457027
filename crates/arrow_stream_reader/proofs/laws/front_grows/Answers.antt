use Rattle.arrow_stream_reader.proofs.Fronts.{more_bytes, one_front}
use Rattle.arrow_stream_reader.proofs.laws.front_grows.Goals as goal

pub returns : goal.returns
returns c = record {
  single = λ limits b es fs e f x y. one_front x y;
  grows = λ limits b d es fs e f x y. more_bytes d x y;
}
