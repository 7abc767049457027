use Rattle.std.proofs.Common.{arith}
use Rattle.arrow_meta_tree.proofs.Pairs.{one_pair}
use Rattle.arrow_meta_tree.proofs.reader.pairs_of.Goals as goal

pub loop-index-preserved : goal.loop-index-preserved
loop-index-preserved c =
    one_pair c.args.vector.now.bytes c.args.vector.now.place c.args.vector.now.count c.loop-index.index c.pair.result c.loop-index.pairs.items _ _ (omega arith) c.pair.ensures.first c.pair.ensures.second c.in_ok-push.ensures.items c.loop-index.invariant
