use Rattle.std.proofs.Common.{refl}
use Rattle.std.proofs.lemmas.Result.{on_ok_weaker}
use Rattle.arrow_body_writer.proofs.Chunks.{some_alignment}
use Rattle.arrow_body_writer.proofs.FullNodes.{full_stored}
use Rattle.arrow_body_writer.specs.Align.{alignment_of}
use Rattle.arrow_body_writer.proofs.body.put_full.Goals as goal

-- the node, and an empty buffer
pub returns : goal.returns
returns c =
    on_ok_weaker c.put_bytes.result
    (λ more. full_stored (alignment_of c.args.align) c.args.array.now c.full_node.result c.args.body.now (record c.args.body.now { nodes = c.push.new.self }) c.put_bytes.new.body (some_alignment c.args.align)
    c.requires.full (λ i. record { length = c.full_node.ensures.length i; null_count = c.full_node.ensures.nulls i }) c.in_ok-push.ensures.items refl refl more)
    c.put_bytes.ensures
