use Rattle.std.proofs.Common.{arith}
use Rattle.arrow_flatbuf.specs.Nodes.{after, table}
use Rattle.arrow_flatbuf.proofs.Laid.{reaches}
use Rattle.arrow_meta_writer.specs.Layouts.{batch_cells}
use Rattle.arrow_meta_reader.specs.Means.{batch_view}
use Rattle.arrow_meta_writer.proofs.Capping.{caps}
use Rattle.arrow_meta_writer.proofs.sizes.header_end.Goals as goal

pub returns-in-Dictionary-clause-end : goal.returns-in-Dictionary-clause-end
returns-in-Dictionary-clause-end c =
    let d = c.in-Dictionary in
    let b = batch_view c.in-Dictionary.batch in
    let node = table (batch_cells b) in
    rw c.in-Dictionary.is (caps (λ q. after q node) (λ q. omega (arith, reaches q node)) c.dictionary_table_end.result c.batch_end.result _ (c.dictionary_table_end.ensures.end c.in-Dictionary.field-0 c.in-Dictionary.field-1 b) c.batch_end.ensures.end)
