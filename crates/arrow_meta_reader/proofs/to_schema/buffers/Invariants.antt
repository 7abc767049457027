use Rattle.std.proofs.Common.{◌≡◌, take, map}
use Rattle.arrow_meta_reader.specs.Means.{buffer_of}
use Rattle.arrow_meta_reader.proofs.to_schema.buffers.Given as goal

abbrev pub invariant-loop-pair : goal.invariant-loop-pair
invariant-loop-pair l = l.buffers.items ≡ map buffer_of (take l.pair-index l.pairs)
