use Rattle.std.proofs.Common.{List, length, map, arith, sym, ap, ◌∙◌}
use Rattle.std.proofs.lemmas.List.{length-map}
use Rattle.arrow_flatbuf.specs.Nodes.{after, pairs}
use Rattle.arrow_flatbuf.proofs.Laid.{reaches}
use Rattle.arrow_types.specs.declared.node.FieldNode.{FieldNode}
use Rattle.arrow_types.specs.declared.node.Buffer.{Buffer}
use Rattle.arrow_meta_writer.specs.Layouts.{node_pair, buffer_pair}
use Rattle.arrow_meta_reader.specs.Means.{batch_view}
use Rattle.arrow_meta_writer.proofs.Capping.{caps, pairs_after}
use Rattle.arrow_meta_writer.proofs.sizes.batch_end.Goals as goal

pub returns-clause-end : goal.returns-clause-end
returns-clause-end c =
    let b = c.args.batch.now in
    let nodes = map node_pair b.nodes.items in
    let buffers = map buffer_pair b.buffers.items in
    let one = pairs_after c.batch_table_end.result _ nodes c.pairs_end-nodes.result (ap (λ (ns : List FieldNode). length ns) c.as_slice.ensures.value ∙ sym (length-map b.nodes.items node_pair)) c.pairs_end-nodes.ensures.end in
    let two = pairs_after c.pairs_end-nodes.result _ buffers c.pairs_end.result (ap (λ (bs : List Buffer). length bs) c.as_slice-2.ensures.value ∙ sym (length-map b.buffers.items buffer_pair)) c.pairs_end.ensures.end in
    let first = caps (λ q. after q (pairs nodes)) (λ q. omega (arith, reaches q (pairs nodes))) c.batch_table_end.result c.pairs_end-nodes.result _ (c.batch_table_end.ensures.end (batch_view b)) one in
    caps (λ q. after q (pairs buffers)) (λ q. omega (arith, reaches q (pairs buffers))) c.pairs_end-nodes.result c.pairs_end.result _ first two
