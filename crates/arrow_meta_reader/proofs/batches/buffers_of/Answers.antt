use Rattle.std.proofs.Common.{◌≡◌, [], ◌∷◌, ◌++◌, arith, rules}
use Rattle.arrow_meta_reader.specs.Means.{buffer_of}
use Rattle.arrow_meta_tree.proofs.Pairs.{one_made}
use Rattle.arrow_meta_reader.proofs.batches.buffers_of.Goals as goal

pub loop-index-preserved : goal.loop-index-preserved
loop-index-preserved c =
    let v = c.args.vector.now in
    let made : c.push.new.self.items ≡ c.loop-index.buffers.items ++ buffer_of c.pair-offset.result ∷ [] = search rules in
    one_made buffer_of v.bytes v.place v.count c.loop-index.index c.pair-offset.result c.loop-index.buffers.items _ _ (omega arith) c.pair-offset.ensures.first c.pair-offset.ensures.second made c.loop-index.invariant
