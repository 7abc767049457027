use Rattle.arrow_stream_laws.proofs.Deliveries.{text_stream}
use Rattle.arrow_stream_laws.proofs.laws.text_is_a_stream.Goals as goal

pub returns : goal.returns
returns c = record { stream = λ limits o fields finish parts batches frames written. text_stream written }
