use Rattle.arrow_meta_writer.proofs.Noting.{pair_nodes_of, pair_room, pairs_step, pairs_last}
use Rattle.arrow_meta_writer.proofs.metadata.write_pairs.Goals as goal

pub write_pair-requires : goal.write_pair-requires
write_pair-requires c =
    let ps = c.args.pairs.now in
    record { room = pair_room c.args.writer.now c.loop-pair.writer ps c.loop-pair.pair-index c.pair-item.result (pair_nodes_of ps) c.loop-pair.invariant c.loop-pair-test.true c.pair-item.is c.requires.room }

pub loop-pair-preserved : goal.loop-pair-preserved
loop-pair-preserved c =
    let ps = c.args.pairs.now in
    pairs_step c.args.writer.now c.loop-pair.writer c.write_pair.new.writer ps c.loop-pair.pair-index c.pair-item.result (pair_nodes_of ps) c.loop-pair.invariant c.loop-pair-test.true c.pair-item.is c.in_ok-write_pair.ensures

pub returns : goal.returns
returns c = pairs_last c.args.writer.now c.loop-pair.writer c.args.pairs.now c.loop-pair.pair-index (pair_nodes_of c.args.pairs.now) c.loop-pair.invariant c.loop-pair-test.false
