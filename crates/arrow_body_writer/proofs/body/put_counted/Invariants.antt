use Rattle.std.proofs.Common.{[], ◌∷◌, take}
use Rattle.arrow_body_laws.specs.Stored.{own_chunks, own_node}
use Rattle.arrow_body_writer.specs.Align.{alignment_of}
use Rattle.arrow_body_writer.specs.Source.{column_in}
use Rattle.arrow_body_writer.specs.Storing.{Stores}
use Rattle.arrow_body_writer.proofs.body.put_counted.Given as goal

-- the node and its first buffers are added
abbrev pub invariant-loop-k : goal.invariant-loop-k
invariant-loop-k l =
    Stores (alignment_of l.align) (own_node (column_in l.node.source).raw ∷ []) (take l.k (own_chunks l.form (column_in l.node.source).raw)) l.fn.body l.body
