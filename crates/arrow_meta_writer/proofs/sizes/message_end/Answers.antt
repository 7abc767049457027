use Rattle.std.proofs.Common.{arith}
use Rattle.arrow_flatbuf.specs.Nodes.{after, table}
use Rattle.arrow_flatbuf.proofs.Laid.{reaches}
use Rattle.arrow_meta_writer.specs.Layouts.{header_cells}
use Rattle.arrow_meta_reader.specs.Means.{header_view, message_view}
use Rattle.arrow_meta_writer.proofs.Capping.{caps}
use Rattle.arrow_meta_writer.proofs.sizes.message_end.Goals as goal

pub returns : goal.returns
returns c =
    let m = c.args.message.now in
    let node = table (header_cells (header_view m.header)) in
    record { end = caps (λ q. after q node) (λ q. omega (arith, reaches q node)) c.message_table_end.result c.header_end.result _ (c.message_table_end.ensures.end (message_view m)) c.header_end.ensures.end }
