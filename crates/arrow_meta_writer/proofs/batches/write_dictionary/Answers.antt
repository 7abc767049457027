use Rattle.std.proofs.Common.{◌≡◌, ℕ, [], ◌∷◌, length, arith, rules, ap, ◌∙◌}
use Rattle.arrow_flatbuf.specs.declared.layout.FieldValue.TheVariants.{Scalar, Target}
use Rattle.arrow_flatbuf.specs.declared.layout.Width.TheVariants.{One, Eight}
use Rattle.arrow_flatbuf.specs.Layout.{table_place}
use Rattle.arrow_flatbuf.specs.Nodes.{cells_place, slots, table, offset, scalar, last}
use Rattle.arrow_flatbuf.proofs.Left.{begun, stepped, ended, left_ends}
use Rattle.arrow_meta_writer.specs.Layouts.{flag, batch_cells, dictionary_cells}
use Rattle.arrow_meta_reader.specs.Means.{batch_view}
use Rattle.arrow_meta_writer.proofs.Exact.{exact_table, table_fits}
use Rattle.arrow_meta_writer.proofs.Fitting.{bits_again, long_fits, long_from}
use Rattle.arrow_meta_writer.proofs.TypeRows.{flag_fits}
use Rattle.arrow_meta_writer.proofs.batches.write_dictionary.Goals as goal

pub table-requires-clause-fits : goal.table-requires-clause-fits
table-requires-clause-fits c =
    let p = length c.args.writer.now in
    let b = batch_view c.args.batch.now in
    let cs = dictionary_cells c.args.id c.args.delta b in
    let end = exact_table c.dictionary_table_end-end.result c.place.result p cs (c.dictionary_table_end-end.ensures.end c.args.id c.args.delta b) c.place.ensures c.requires.room in
    let place : c.table_place.result ≡ table_place (cells_place p cs) 3 = c.table_place.ensures.value ∙ ap (λ (n : ℕ). table_place n 3) end in
    let id = c.cast_unsigned.ensures ∙ bits_again c.args.id (search rules) in
    let delta = c.bit.ensures.value in
    let ss = c.dictionary_table.result in
    let same : ss ≡ slots (cells_place p cs) cs = c.dictionary_table.ensures ∙ (λ i. Scalar Eight (id i) ∷ Target (place i) ∷ Scalar One (delta i) ∷ []) in
    let long = long_from c.args.id (search rules) in
    table_fits p ss cs same (omega (arith, long_fits c.args.id long), (omega (arith, flag_fits c.args.delta), tt)) c.requires.room

pub write_batch-requires : goal.write_batch-requires
write_batch-requires c =
    let p = length c.args.writer.now in
    let b = batch_view c.args.batch.now in
    let cs = dictionary_cells c.args.id c.args.delta b in
    let end = exact_table c.dictionary_table_end-end.result c.place.result p cs (c.dictionary_table_end-end.ensures.end c.args.id c.args.delta b) c.place.ensures c.requires.room in
    let place : c.table_place.result ≡ table_place (cells_place p cs) 3 = c.table_place.ensures.value ∙ ap (λ (n : ℕ). table_place n 3) end in
    let id = c.cast_unsigned.ensures ∙ bits_again c.args.id (search rules) in
    let delta = c.bit.ensures.value in
    let ss = c.dictionary_table.result in
    let same : ss ≡ slots (cells_place p cs) cs = c.dictionary_table.ensures ∙ (λ i. Scalar Eight (id i) ∷ Target (place i) ∷ Scalar One (delta i) ∷ []) in
    let begins = begun c.args.writer.now c.table.new.self ss cs c.in_ok-table.ensures.ok same in
    record { room = omega (arith, left_ends c.args.writer.now c.table.new.self (offset (table (batch_cells b)) (scalar One (flag c.args.delta) last)) (table cs) begins, c.requires.room) }

pub returns-clause-bytes : goal.returns-clause-bytes
returns-clause-bytes c =
    let p = length c.args.writer.now in
    let b = batch_view c.args.batch.now in
    let cs = dictionary_cells c.args.id c.args.delta b in
    let end = exact_table c.dictionary_table_end-end.result c.place.result p cs (c.dictionary_table_end-end.ensures.end c.args.id c.args.delta b) c.place.ensures c.requires.room in
    let place : c.table_place.result ≡ table_place (cells_place p cs) 3 = c.table_place.ensures.value ∙ ap (λ (n : ℕ). table_place n 3) end in
    let id = c.cast_unsigned.ensures ∙ bits_again c.args.id (search rules) in
    let delta = c.bit.ensures.value in
    let ss = c.dictionary_table.result in
    let same : ss ≡ slots (cells_place p cs) cs = c.dictionary_table.ensures ∙ (λ i. Scalar Eight (id i) ∷ Target (place i) ∷ Scalar One (delta i) ∷ []) in
    let old = c.args.writer.now in
    let begins = begun old c.table.new.self ss cs c.in_ok-table.ensures.ok same in
    ended old c.write_batch.new.writer (table cs) (stepped old c.table.new.self c.write_batch.new.writer (table (batch_cells b)) (scalar One (flag c.args.delta) last) (table cs) begins c.in_ok-write_batch.ensures.bytes)

pub returns-clause-typed : goal.returns-clause-typed
returns-clause-typed c = (long_from c.args.id (search rules), c.in_ok-write_batch.ensures.typed)
