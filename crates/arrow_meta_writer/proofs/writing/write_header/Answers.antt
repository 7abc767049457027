use Rattle.std.proofs.Common.{◌≡◌, rules, subst}
use Rattle.std.specs.Prelude.{OnOk}
use Rattle.std.specs.Int.{cast_signed, cast_unsigned, w64}
use Rattle.std.proofs.lemmas.Int.{to_z-of_z}
use Rattle.arrow_flatbuf.specs.Nodes.{table}
use Rattle.arrow_meta_writer.specs.Appends.{Appends}
use Rattle.arrow_meta_writer.specs.Layouts.{dictionary_cells}
use Rattle.arrow_meta_reader.specs.Means.{batch_view}
use Rattle.arrow_meta_writer.proofs.writing.write_header.Goals as goal

pub returns-in-Dictionary-clause-bytes : goal.returns-in-Dictionary-clause-bytes
returns-in-Dictionary-clause-bytes c =
    let d = c.in-Dictionary in
    let id : cast_signed w64 (cast_unsigned w64 c.in-Dictionary.id) ≡ c.in-Dictionary.id = to_z-of_z w64 c.in-Dictionary.id (search rules) in
    let wrote = subst (λ z. OnOk c.write_dictionary.result (Appends c.args.writer.now (table (dictionary_cells z c.in-Dictionary.delta (batch_view c.in-Dictionary.batch))) c.write_dictionary.new.writer)) id c.write_dictionary.ensures.bytes in
    rw c.in-Dictionary.is wrote

pub returns-in-Batch-clause-bytes : goal.returns-in-Batch-clause-bytes
returns-in-Batch-clause-bytes c = rw c.in-Batch.is c.write_batch.ensures.bytes
