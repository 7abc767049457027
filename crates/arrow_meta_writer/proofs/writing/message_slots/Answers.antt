use Rattle.std.proofs.Common.{refl, ◌≡◌, ℕ, [], ◌∷◌, arith, ap, ◌∙◌}
use Rattle.arrow_flatbuf.specs.declared.layout.FieldValue.TheVariants.{Scalar, Target}
use Rattle.arrow_flatbuf.specs.declared.layout.Width.TheVariants.{One, Two, Eight}
use Rattle.arrow_flatbuf.specs.Layout.{table_place}
use Rattle.arrow_flatbuf.specs.Nodes.{cells_place, table}
use Rattle.arrow_flatbuf.proofs.Laid.{reaches}
use Rattle.arrow_flatbuf.specs.Nodes.{count}
use Rattle.arrow_meta_writer.specs.Layouts.{header_cells, message_cells}
use Rattle.arrow_meta_reader.specs.Means.{header_view, message_view}
use Rattle.arrow_meta_writer.proofs.Exact.{exact_table}
use Rattle.arrow_meta_writer.proofs.writing.message_slots.Goals as goal

pub message_table_end-end-requires : goal.message_table_end-end-requires
message_table_end-end-requires c = omega (arith, reaches c.args.place (table (message_cells (message_view c.args.message.now))), c.requires.room)

pub returns : goal.returns
returns c =
    let p = c.args.place in
    let m = message_view c.args.message.now in
    let h = header_view c.args.message.now.header in
    let cs = message_cells m in
    let end = exact_table c.message_table_end-end.result p p cs (c.message_table_end-end.ensures.end m) refl c.requires.room in
    let place : c.table_place.result ≡ table_place (cells_place p cs) (count (header_cells h)) =
    c.table_place.ensures.value ∙ ap (λ (n : ℕ). table_place c.message_table_end-end.result n) c.header_fields.ensures.count ∙ ap (λ (n : ℕ). table_place n (count (header_cells h))) end in
    let version = c.version_number.ensures.number in
    let code = c.header_code.ensures.code in
    record { slots = c.message_table.ensures ∙ (λ i. Scalar Two (version i) ∷ Scalar One (code i) ∷ Target (place i) ∷ Scalar Eight c.args.message.now.body_len ∷ []) }
