use Rattle.std.proofs.Common.{◌≡◌, drop}
use Rattle.std.specs.List.{list_any}
use Rattle.arrow_stream_reader.specs.Batch.{is_bad_length}
use Rattle.arrow_stream_reader.proofs.refusals.have_bad_length.Given as goal

-- there is a bad one among all of them exactly if there is one among those to come
abbrev pub invariant-loop-node : goal.invariant-loop-node
invariant-loop-node l = list_any (λ n. is_bad_length l.max n.length) (drop l.node-index l.nodes) ≡ list_any (λ n. is_bad_length l.max n.length) l.nodes
