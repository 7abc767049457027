use Rattle.std.proofs.Common.{◌≡◌, None, rules}
use Rattle.arrow_flatbuf.specs.Table.{field_place}
use Rattle.arrow_meta_reader.proofs.Straight.{batch_there}
use Rattle.arrow_meta_reader.proofs.batches.batch_in.Goals as goal

pub returns : goal.returns
returns c =
    let t = c.args.table.now in
    let absent : field_place t 3 ≡ None = search rules in
    let ns = c.in_ok-nodes.ensures in
    let bs = c.in_ok-buffers.ensures in
    batch_there t _ c.in_ok-number_in.field-0 ns.0 bs.0 c.in_ok-number_in.ensures ns.1 bs.1 absent (search rules) ns.2 bs.2
