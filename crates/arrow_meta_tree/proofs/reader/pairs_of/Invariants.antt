use Rattle.std.proofs.Common.{◌≡◌, ◌+◌, ◌*◌, ◌-◌, ◌++◌}
use Rattle.arrow_meta_tree.specs.Lies.{pairs_from}
use Rattle.arrow_meta_tree.proofs.reader.pairs_of.Given as goal

abbrev pub invariant-loop-index : goal.invariant-loop-index
invariant-loop-index l = l.pairs.items ++ pairs_from l.vector.bytes (l.vector.place + l.index * 16) (l.vector.count - l.index) ≡ pairs_from l.vector.bytes l.vector.place l.vector.count
