use Rattle.std.proofs.Common.{ℕ, ◌≤◌, List, ◌++◌, length, map, arith, sym}
use Rattle.std.proofs.Common.{ap, subst, ◌∙◌}
use Rattle.arrow_flatbuf.specs.Nodes.{laid, after, table, pairs, offset, last}
use Rattle.arrow_flatbuf.proofs.Laid.{ahead_cells}
use Rattle.arrow_flatbuf.proofs.Left.{begun, stepped, ended, left_ends}
use Rattle.arrow_types.specs.declared.node.FieldNode.{FieldNode}
use Rattle.arrow_types.specs.declared.node.Buffer.{Buffer}
use Rattle.arrow_meta_writer.specs.Layouts.{node_pair, buffer_pair, batch_cells}
use Rattle.arrow_meta_reader.specs.Means.{batch_view}
use Rattle.arrow_meta_writer.specs.Writable.{AreNodes, AreBuffers}
use Rattle.arrow_meta_writer.proofs.Exact.{slots_there, table_fits}
use Rattle.arrow_meta_writer.proofs.Fitting.{long_fits}
use Rattle.arrow_meta_writer.proofs.batches.write_batch.Goals as goal

pub batch_slots-slots-requires : goal.batch_slots-slots-requires
batch_slots-slots-requires c =
    let node = table (batch_cells (batch_view c.args.batch.now)) in
    record { room = subst (λ (n : ℕ). after n node ≤ 1073741824) (sym c.place.ensures) c.requires.room }

pub table-requires-clause-fits : goal.table-requires-clause-fits
table-requires-clause-fits c =
    let p = length c.args.writer.now in
    let cs = batch_cells (batch_view c.args.batch.now) in
    let ss = c.batch_slots-slots.result in
    let same = slots_there c.place.result p ss cs c.place.ensures c.batch_slots-slots.ensures.slots in
    table_fits p ss cs same (omega (arith, long_fits c.args.batch.now.length c.batch_slots-slots.ensures.long), tt) c.requires.room

pub write_nodes-requires : goal.write_nodes-requires
write_nodes-requires c =
    let old = c.args.writer.now in
    let b = batch_view c.args.batch.now in
    let nodes = map node_pair b.nodes in
    let rest = offset (pairs (map buffer_pair b.buffers)) last in
    let cs = batch_cells b in
    let t = c.table.new.self in
    let begins = begun old t c.batch_slots-slots.result cs c.in_ok-table.ensures.ok (slots_there c.place.result (length old) c.batch_slots-slots.result cs c.place.ensures c.batch_slots-slots.ensures.slots) in
    let slice = ap (λ (ns : List FieldNode). after (length t) (pairs (map node_pair ns))) c.as_slice.ensures.value in
    record { room = omega (arith, slice, left_ends old t (offset (pairs nodes) rest) (table cs) begins, ahead_cells (after (length t) (pairs nodes)) rest, c.requires.room) }

pub write_buffers-requires : goal.write_buffers-requires
write_buffers-requires c =
    let old = c.args.writer.now in
    let b = batch_view c.args.batch.now in
    let nodes = map node_pair b.nodes in
    let rest = offset (pairs (map buffer_pair b.buffers)) last in
    let cs = batch_cells b in
    let t = c.table.new.self in
    let begins = begun old t c.batch_slots-slots.result cs c.in_ok-table.ensures.ok (slots_there c.place.result (length old) c.batch_slots-slots.result cs c.place.ensures c.batch_slots-slots.ensures.slots) in
    let n = c.write_nodes.new.writer in
    let wrote = c.in_ok-write_nodes.ensures.bytes ∙ ap (λ (ns : List FieldNode). t ++ laid (length t) (pairs (map node_pair ns))) c.as_slice.ensures.value in
    let halfway = stepped old t n (pairs nodes) rest (table cs) begins wrote in
    let slice = ap (λ (bs : List Buffer). after (length n) (pairs (map buffer_pair bs))) c.as_slice-2.ensures.value in
    record { room = omega (arith, slice, left_ends old n rest (table cs) halfway, c.requires.room) }

pub returns-clause-bytes : goal.returns-clause-bytes
returns-clause-bytes c =
    let old = c.args.writer.now in
    let b = batch_view c.args.batch.now in
    let nodes = map node_pair b.nodes in
    let rest = offset (pairs (map buffer_pair b.buffers)) last in
    let cs = batch_cells b in
    let t = c.table.new.self in
    let begins = begun old t c.batch_slots-slots.result cs c.in_ok-table.ensures.ok (slots_there c.place.result (length old) c.batch_slots-slots.result cs c.place.ensures c.batch_slots-slots.ensures.slots) in
    let n = c.write_nodes.new.writer in
    let wrote = c.in_ok-write_nodes.ensures.bytes ∙ ap (λ (ns : List FieldNode). t ++ laid (length t) (pairs (map node_pair ns))) c.as_slice.ensures.value in
    let halfway = stepped old t n (pairs nodes) rest (table cs) begins wrote in
    let buffers = pairs (map buffer_pair b.buffers) in
    let all = c.in_ok-write_buffers.ensures.bytes ∙ ap (λ (bs : List Buffer). n ++ laid (length n) (pairs (map buffer_pair bs))) c.as_slice-2.ensures.value in
    ended old c.write_buffers.new.writer (table cs) (stepped old n c.write_buffers.new.writer buffers last (table cs) halfway all)

pub returns-clause-typed : goal.returns-clause-typed
returns-clause-typed c = record {
  length = c.batch_slots-slots.ensures.long;
  nodes = subst AreNodes c.as_slice.ensures.value c.in_ok-write_nodes.ensures.typed;
  buffers = subst AreBuffers c.as_slice-2.ensures.value c.in_ok-write_buffers.ensures.typed;
}
