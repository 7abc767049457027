use Rattle.std.proofs.Common.{rules}
use Rattle.arrow_meta_writer.proofs.Fitting.{long_from}
use Rattle.arrow_meta_writer.proofs.batches.write_buffer.Goals as goal

pub returns-clause-typed : goal.returns-clause-typed
returns-clause-typed c = (long_from c.args.buffer.now.offset (search rules), long_from c.args.buffer.now.length (search rules))
