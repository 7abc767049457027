use Rattle.std.proofs.Common.{◌≡◌, ◌++◌, drop, map, length}
use Rattle.arrow_flatbuf.specs.Nodes.{pair_bytes, laid, pairs}
use Rattle.arrow_meta_writer.specs.Layouts.{node_pair}
use Rattle.arrow_meta_writer.specs.Writable.{AreNodes}
use Rattle.arrow_meta_writer.proofs.batches.write_nodes.Given as goal

-- the bytes so far and the remaining pairs are the complete vector
abbrev pub invariant-loop-node : goal.invariant-loop-node
invariant-loop-node l = record {
  left : l.writer ++ pair_bytes (map node_pair (drop l.node-index l.nodes)) ≡ l.fn.writer ++ laid (length l.fn.writer) (pairs (map node_pair l.nodes));
  typed : AreNodes (drop l.node-index l.nodes) → AreNodes l.nodes;
}
