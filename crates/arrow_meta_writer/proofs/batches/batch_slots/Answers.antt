use Rattle.std.proofs.Common.{refl, ◌≡◌, ℕ, ◌+◌, ◌-◌, List, [], ◌∷◌, length, map, arith, rules, sym}
use Rattle.std.proofs.Common.{ap, ◌∙◌}
use Rattle.arrow_flatbuf.specs.declared.layout.FieldValue.TheVariants.{Scalar, Target}
use Rattle.arrow_flatbuf.specs.declared.layout.Width.TheVariants.{Eight}
use Rattle.arrow_flatbuf.specs.Layout.{up, gap}
use Rattle.arrow_flatbuf.specs.Nodes.{cells_place, after, pairs, offset, last}
use Rattle.std.proofs.lemmas.List.{length-map}
use Rattle.arrow_types.specs.declared.node.FieldNode.{FieldNode}
use Rattle.arrow_meta_writer.specs.Layouts.{node_pair, buffer_pair, batch_cells}
use Rattle.arrow_meta_reader.specs.Means.{batch_view}
use Rattle.arrow_meta_writer.proofs.Capping.{pairs_after}
use Rattle.arrow_meta_writer.proofs.Exact.{exact_table, exact_after}
use Rattle.arrow_meta_writer.proofs.Fitting.{bits_again, long_from}
use Rattle.arrow_meta_writer.proofs.batches.batch_slots.Goals as goal

pub returns-clause-slots : goal.returns-clause-slots
returns-clause-slots c =
    let p = c.args.place in
    let b = batch_view c.args.batch.now in
    let nodes = map node_pair b.nodes in
    let buffers = map buffer_pair b.buffers in
    let cs = batch_cells b in
    let q = cells_place p cs in
    let rest = offset (pairs buffers) last in
    let at_nodes = exact_table c.batch_table_end-nodes.result p p cs (c.batch_table_end-nodes.ensures.end b) refl c.requires.room in
    let counted = ap (λ (ns : List FieldNode). length ns) c.as_slice.ensures.value ∙ sym (length-map b.nodes node_pair) in
    let after_nodes = pairs_after c.batch_table_end-nodes.result _ nodes c.pairs_end-buffers.result counted c.pairs_end-buffers.ensures.end in
    let at_buffers = exact_after c.batch_table_end-nodes.result c.pairs_end-buffers.result q (pairs nodes) rest after_nodes at_nodes c.requires.room in
    let r = after q (pairs nodes) in
    let first_place : c.aligned.result - 4 ≡ q + gap 8 (q + 4) = ap (λ (n : ℕ). n - 4) (c.aligned.ensures.value ∙ ap (λ (n : ℕ). up 8 (n + 4)) at_nodes) ∙ omega arith in
    let second_place : c.aligned-2.result - 4 ≡ r + gap 8 (r + 4) = ap (λ (n : ℕ). n - 4) (c.aligned-2.ensures.value ∙ ap (λ (n : ℕ). up 8 (n + 4)) at_buffers) ∙ omega arith in
    let rows = c.cast_unsigned.ensures ∙ bits_again c.args.batch.now.length (search rules) in
    c.batch_table.ensures ∙ (λ i. Scalar Eight (rows i) ∷ Target (first_place i) ∷ Target (second_place i) ∷ [])

pub returns-clause-long : goal.returns-clause-long
returns-clause-long c = long_from c.args.batch.now.length (search rules)
