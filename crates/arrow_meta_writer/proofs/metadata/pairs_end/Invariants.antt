use Rattle.std.proofs.Common.{◌≡◌, ◌≤◌}
use Rattle.arrow_flatbuf.specs.Nodes.{after, after_all, tables}
use Rattle.arrow_meta_writer.specs.Capped.{capped}
use Rattle.arrow_meta_writer.proofs.Noting.{pair_nodes_of, pairs_left}
use Rattle.arrow_meta_writer.proofs.metadata.pairs_end.Given as goal

-- the remaining pairs end where all pairs end
abbrev pub invariant-loop-pair : goal.invariant-loop-pair
invariant-loop-pair l = record {
  same : capped (after_all l.end (pairs_left l.pairs l.pair-index)) ≡ capped (after l.place (tables (pair_nodes_of l.pairs)));
  near : l.end ≤ 1073741825;
}
