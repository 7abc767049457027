use Rattle.arrow_stream_writer.proofs.Delivering.{delivered_whole}
use Rattle.arrow_stream_writer.proofs.laws.delivered_whole.Goals as goal

pub returns : goal.returns
returns c = delivered_whole
