use Rattle.std.proofs.Common.{◌≡◌, drop}
use Rattle.std.specs.List.{list_any}
use Rattle.arrow_stream_reader.specs.Batch.{is_bad_length}
use Rattle.arrow_stream_writer.proofs.frames.have_bad_length.Given as goal

-- some of all nodes are bad if and only if some of those to come are
abbrev pub invariant-loop-node : goal.invariant-loop-node
invariant-loop-node l = list_any (λ n. is_bad_length l.max n.length) (drop l.node-index l.nodes) ≡ list_any (λ n. is_bad_length l.max n.length) l.nodes
