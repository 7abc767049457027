use Rattle.arrow_stream_laws.proofs.Sending.{written_sent}
use Rattle.arrow_stream_laws.proofs.laws.one_text.Goals as goal

pub returns : goal.returns
returns c = λ limits o shape finish parts batches frames written. written_sent written
