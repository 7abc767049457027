use Rattle.arrow_flatbuf.proofs.Rows.{TablesLeft}
use Rattle.arrow_meta_writer.proofs.Noting.{pair_nodes_of, pairs_left}
use Rattle.arrow_meta_writer.proofs.metadata.write_pairs.Given as goal

-- the bytes so far and the tables of the remaining pairs are the complete vector
abbrev pub invariant-loop-pair : goal.invariant-loop-pair
invariant-loop-pair l = TablesLeft l.fn.writer l.writer (pairs_left l.pairs l.pair-index) (pair_nodes_of l.pairs)
