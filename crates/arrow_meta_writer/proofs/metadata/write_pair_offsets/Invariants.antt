use Rattle.arrow_flatbuf.proofs.Rows.{HeadsLeft}
use Rattle.arrow_meta_writer.proofs.Noting.{pair_nodes_of, pairs_left}
use Rattle.arrow_meta_writer.proofs.metadata.write_pair_offsets.Given as goal

-- the bytes so far and the remaining offsets are all offsets
abbrev pub invariant-loop-pair : goal.invariant-loop-pair
invariant-loop-pair l = HeadsLeft l.fn.writer l.writer l.end (pairs_left l.pairs l.pair-index) (pair_nodes_of l.pairs)
