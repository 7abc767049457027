use Rattle.std.proofs.Common.{◌≡◌, refl, ap, arith, ◌∙◌}
use Rattle.arrow_flatbuf.specs.Layout.{up}
use Rattle.arrow_flatbuf.specs.Nodes.{cells_place, table}
use Rattle.arrow_flatbuf.proofs.Laid.{reaches}
use Rattle.arrow_types.specs.View.{type_view}
use Rattle.arrow_meta_writer.specs.Layouts.{type_cells}
use Rattle.arrow_meta_writer.proofs.Exact.{exact_table}
use Rattle.arrow_meta_writer.proofs.types.placed_slots.Goals as goal

pub type_table_end-requires : goal.type_table_end-requires
type_table_end-requires c = omega (arith, c.requires, reaches c.args.place (table (type_cells (type_view c.args.data_type.now).tag)))

pub returns-clause-slots : goal.returns-clause-slots
returns-clause-slots c =
    let place = c.args.place in
    let cells = type_cells (type_view c.args.data_type.now).tag in
    let end = exact_table c.type_table_end.result place place cells c.type_table_end.ensures.end refl c.requires.room in
    let zone : c.aligned-zone.result ≡ up 4 (cells_place place cells) = c.aligned-zone.ensures.value ∙ ap (up 4) end in
    c.type_slots.ensures.slots (cells_place place cells) zone
