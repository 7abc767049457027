use Rattle.std.proofs.Common.{◌≡◌, [], ◌∷◌, ◌++◌, arith, rules}
use Rattle.arrow_meta_reader.specs.Means.{node_of}
use Rattle.arrow_meta_tree.proofs.Pairs.{one_made}
use Rattle.arrow_meta_reader.proofs.batches.nodes_of.Goals as goal

pub loop-index-preserved : goal.loop-index-preserved
loop-index-preserved c =
    let v = c.args.vector.now in
    let made : c.push.new.self.items ≡ c.loop-index.nodes.items ++ node_of c.pair-length.result ∷ [] = search rules in
    one_made node_of v.bytes v.place v.count c.loop-index.index c.pair-length.result c.loop-index.nodes.items _ _ (omega arith) c.pair-length.ensures.first c.pair-length.ensures.second made c.loop-index.invariant
