use Rattle.arrow_stream_reader.proofs.Fronts.{one_front}
use Rattle.arrow_stream_laws.proofs.Deliveries.{delivered}
use Rattle.arrow_stream_laws.proofs.laws.delivered_beginning.Goals as goal

pub returns : goal.returns
returns c = record {
  single = λ limits b es fs e f x y. one_front x y;
  delivered = λ limits o fields finish parts batches frames written n. delivered n written;
}
