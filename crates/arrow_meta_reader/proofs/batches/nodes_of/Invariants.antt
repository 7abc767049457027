use Rattle.std.proofs.Common.{◌≡◌, ◌+◌, ◌*◌, ◌-◌, ◌++◌, map}
use Rattle.arrow_meta_tree.specs.Lies.{pairs_from}
use Rattle.arrow_meta_reader.specs.Means.{node_of}
use Rattle.arrow_meta_reader.proofs.batches.nodes_of.Given as goal

abbrev pub invariant-loop-index : goal.invariant-loop-index
invariant-loop-index l = l.nodes.items ++ map node_of (pairs_from l.vector.bytes (l.vector.place + l.index * 16) (l.vector.count - l.index)) ≡ map node_of (pairs_from l.vector.bytes l.vector.place l.vector.count)
