use Rattle.arrow_stream_laws.proofs.Writers.{broken_delivered, end_delivered, start_delivered, stream_sent}
use Rattle.arrow_stream_laws.proofs.laws.sent_is_a_stream.Goals as goal

pub returns : goal.returns
returns c = record { stream = stream_sent; broken_at_start = start_delivered; broken = broken_delivered; broken_at_end = end_delivered }
