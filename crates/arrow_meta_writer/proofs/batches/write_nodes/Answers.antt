use Rattle.std.proofs.Common.{sym, subst}
use Rattle.std.proofs.lemmas.List.{drop_all}
use Rattle.arrow_meta_writer.specs.Layouts.{node_pair}
use Rattle.arrow_meta_writer.specs.Writable.{AreNodes}
use Rattle.arrow_meta_writer.proofs.PairRows.{pairs_first, node_step, node_typed, pairs_last}
use Rattle.arrow_meta_writer.proofs.batches.write_nodes.Goals as goal

pub loop-node-init : goal.loop-node-init
loop-node-init c = record {
  left = pairs_first node_pair c.args.writer.now c.count_pairs.new.self c.args.nodes.now c.in_ok-count_pairs.ensures.ok;
  typed = λ h. h;
}

pub loop-node-preserved : goal.loop-node-preserved
loop-node-preserved c =
    let i = c.loop-node.node-index in
    let xs = c.args.nodes.now in
    record {
      left = node_step _ _ _ xs i _ c.loop-node-test.true c.in_ok-write_node.ensures.bytes c.loop-node.invariant.left;
      typed = λ h. c.loop-node.invariant.typed (node_typed xs i _ c.loop-node-test.true c.in_ok-write_node.ensures.typed h);
    }

pub returns-clause-bytes : goal.returns-clause-bytes
returns-clause-bytes c = pairs_last node_pair _ _ c.args.nodes.now c.loop-node.node-index c.loop-node-test.false c.loop-node.invariant.left

pub returns-clause-typed : goal.returns-clause-typed
returns-clause-typed c =
    c.loop-node.invariant.typed (subst AreNodes (sym (drop_all c.loop-node.node-index c.args.nodes.now c.loop-node-test.false)) tt)
