use Rattle.std.proofs.Common.{arith}
use Rattle.arrow_flatbuf.specs.Nodes.{after, table}
use Rattle.arrow_flatbuf.proofs.Laid.{reaches}
use Rattle.arrow_meta_writer.specs.Layouts.{int_cells}
use Rattle.arrow_meta_writer.proofs.Capping.{caps}
use Rattle.arrow_meta_writer.proofs.sizes.encoding_end.Goals as goal

pub returns-in-Some-clause-end : goal.returns-in-Some-clause-end
returns-in-Some-clause-end c =
    let e = c.in-Some.encoding in
    let int = table (int_cells e.index.bits e.index.signed) in
    rw c.in-Some.is (caps (λ q. after q int) (λ q. omega (arith, reaches q int)) c.encoding_table_end.result c.int_end.result _ (c.encoding_table_end.ensures.end e) c.int_end.ensures.end)
