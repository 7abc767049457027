use Rattle.std.proofs.Common.{◌≡◌, take, map}
use Rattle.arrow_meta_reader.specs.Means.{node_of}
use Rattle.arrow_meta_reader.proofs.to_schema.nodes.Given as goal

abbrev pub invariant-loop-pair : goal.invariant-loop-pair
invariant-loop-pair l = l.nodes.items ≡ map node_of (take l.pair-index l.pairs)
