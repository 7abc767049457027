use Rattle.arrow_stream_reader.proofs.Fronts.{one_front}
use Rattle.arrow_stream_reader.proofs.laws.one_front.Goals as goal

pub returns : goal.returns
returns c = record { single = λ limits b es fs e f x y. one_front x y }
