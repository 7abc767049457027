use Rattle.std.proofs.Common.{◌≡◌, Some, None, length, ◌∙◌}
use Rattle.std.proofs.lemmas.Result.{on_ok_weaker}
use Rattle.arrow_flatbuf.specs.Nodes.{last, table, text}
use Rattle.arrow_flatbuf.proofs.Left.{begun, stepped, ended}
use Rattle.arrow_types.specs.View.{type_view}
use Rattle.arrow_meta_writer.specs.Layouts.{type_cells, zone_in}
use Rattle.arrow_meta_writer.proofs.Exact.{slots_there, table_fits}
use Rattle.arrow_meta_writer.proofs.TypeZones.{zone_left}
use Rattle.arrow_meta_writer.proofs.types.write_type.Goals as goal

pub table-requires-clause-fits : goal.table-requires-clause-fits
table-requires-clause-fits c =
    let p = length c.args.writer.now in
    let cs = type_cells (type_view c.args.data_type.now).tag in
    let ss = c.as_slice.result.now in
    let same = slots_there c.place.result p ss cs c.place.ensures (c.as_slice.ensures.slots ∙ c.placed_slots-slots.ensures.slots) in
    table_fits p ss cs same c.placed_slots-slots.ensures.fits c.requires.room

pub returns-in-Some-clause-bytes : goal.returns-in-Some-clause-bytes
returns-in-Some-clause-bytes c =
    let tag = (type_view c.args.data_type.now).tag in
    let cs = type_cells tag in
    let old = c.args.writer.now in
    let tabled = c.table.new.self in
    let ss = c.as_slice.result.now in
    let same = slots_there c.place.result (length old) ss cs c.place.ensures (c.as_slice.ensures.slots ∙ c.placed_slots-slots.ensures.slots) in
    let zone = c.in-Some.zone.now in
    let zoned : Some zone ≡ zone_in tag = c.in-Some.ensures.zone in
    let left = zone_left old tabled tag (Some zone) (table cs) zoned (begun old tabled ss cs c.in_ok-table.ensures.ok same) in
    on_ok_weaker c.text.result (λ wrote. ended old c.text.new.self (table cs) (stepped old tabled c.text.new.self (text zone) last (table cs) left wrote)) c.text.ensures.ok

pub returns-in-None-clause-bytes : goal.returns-in-None-clause-bytes
returns-in-None-clause-bytes c =
    let tag = (type_view c.args.data_type.now).tag in
    let cs = type_cells tag in
    let old = c.args.writer.now in
    let tabled = c.table.new.self in
    let ss = c.as_slice.result.now in
    let same = slots_there c.place.result (length old) ss cs c.place.ensures (c.as_slice.ensures.slots ∙ c.placed_slots-slots.ensures.slots) in
    let zoned : None ≡ zone_in tag = c.in-None.ensures.zone in
    ended old tabled (table cs) (zone_left old tabled tag None (table cs) zoned (begun old tabled ss cs c.in_ok-table.ensures.ok same))
