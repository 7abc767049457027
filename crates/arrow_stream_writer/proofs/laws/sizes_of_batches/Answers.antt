use Rattle.arrow_stream_writer.proofs.Sizing.{batch_sized, dictionary_sized}
use Rattle.arrow_stream_writer.proofs.laws.sizes_of_batches.Goals as goal

pub returns : goal.returns
returns c = record { batches = batch_sized; dictionaries = dictionary_sized }
