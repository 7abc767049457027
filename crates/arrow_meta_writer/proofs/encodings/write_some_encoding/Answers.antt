use Rattle.std.proofs.Common.{◌≡◌, ℕ, [], ◌∷◌, length, arith, rules, ap, ◌∙◌}
use Rattle.arrow_flatbuf.specs.declared.layout.FieldValue.TheVariants.{Scalar, Target}
use Rattle.arrow_flatbuf.specs.declared.layout.Width.TheVariants.{One, Two, Eight}
use Rattle.arrow_flatbuf.specs.Layout.{table_place}
use Rattle.arrow_flatbuf.specs.Nodes.{cells_place, slots, table, scalar, last}
use Rattle.arrow_flatbuf.proofs.Left.{begun, stepped, ended}
use Rattle.arrow_meta_writer.specs.Layouts.{flag, int_cells, encoding_cells}
use Rattle.arrow_meta_writer.proofs.Exact.{exact_table, table_fits}
use Rattle.arrow_meta_writer.proofs.Fitting.{bits_again, long_fits, long_from}
use Rattle.arrow_meta_writer.proofs.TypeRows.{flag_fits}
use Rattle.arrow_meta_writer.proofs.encodings.write_some_encoding.Goals as goal

pub table-requires-clause-fits : goal.table-requires-clause-fits
table-requires-clause-fits c =
    let e = c.args.encoding in
    let p = length c.args.writer.now in
    let cs = encoding_cells e in
    let id = long_from c.args.encoding.id (search rules) in
    let end = exact_table c.encoding_table_end-end.result c.place.result p cs (c.encoding_table_end-end.ensures.end e) c.place.ensures c.requires.room in
    let index : c.table_place.result ≡ table_place (cells_place p cs) 2 = c.table_place.ensures.value ∙ ap (λ (n : ℕ). table_place n 2) end in
    let bits = c.cast_unsigned.ensures ∙ bits_again c.args.encoding.id (search rules) in
    let ordered = c.bit.ensures.value in
    let ss = c.encoding_table.result in
    let same : ss ≡ slots (cells_place p cs) cs = c.encoding_table.ensures ∙ (λ i. Scalar Eight (bits i) ∷ Target (index i) ∷ Scalar One (ordered i) ∷ Scalar Two 0 ∷ []) in
    table_fits p ss cs same (omega (arith, long_fits e.id id), (omega (arith, flag_fits e.ordered), (omega arith, tt))) c.requires.room

pub returns-clause-bytes : goal.returns-clause-bytes
returns-clause-bytes c =
    let e = c.args.encoding in
    let p = length c.args.writer.now in
    let cs = encoding_cells e in
    let id = long_from c.args.encoding.id (search rules) in
    let end = exact_table c.encoding_table_end-end.result c.place.result p cs (c.encoding_table_end-end.ensures.end e) c.place.ensures c.requires.room in
    let index : c.table_place.result ≡ table_place (cells_place p cs) 2 = c.table_place.ensures.value ∙ ap (λ (n : ℕ). table_place n 2) end in
    let bits = c.cast_unsigned.ensures ∙ bits_again c.args.encoding.id (search rules) in
    let ordered = c.bit.ensures.value in
    let ss = c.encoding_table.result in
    let same : ss ≡ slots (cells_place p cs) cs = c.encoding_table.ensures ∙ (λ i. Scalar Eight (bits i) ∷ Target (index i) ∷ Scalar One (ordered i) ∷ Scalar Two 0 ∷ []) in
    let old = c.args.writer.now in
    let begins = begun old c.table.new.self ss cs c.in_ok-table.ensures.ok same in
    ended old c.write_int.new.writer (table cs) (stepped old c.table.new.self c.write_int.new.writer (table (int_cells e.index.bits e.index.signed)) (scalar One (flag e.ordered) (scalar Two 0 last)) (table cs) begins c.in_ok-write_int.ensures)
