use Rattle.std.proofs.Common.{rules}
use Rattle.arrow_meta_writer.proofs.Fitting.{long_from}
use Rattle.arrow_meta_writer.proofs.batches.write_node.Goals as goal

pub returns-clause-typed : goal.returns-clause-typed
returns-clause-typed c = (long_from c.args.node.now.length (search rules), long_from c.args.node.now.null_count (search rules))
