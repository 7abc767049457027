use Rattle.std.proofs.Common.{◌≡◌, Some, None, ap, ◌∙◌, arith}
use Rattle.arrow_flatbuf.specs.Nodes.{after, cells_place, text}
use Rattle.arrow_flatbuf.proofs.Laid.{reaches}
use Rattle.arrow_types.specs.View.{type_view}
use Rattle.arrow_meta_writer.specs.Capped.{capped}
use Rattle.arrow_meta_writer.specs.Layouts.{type_cells, zone_in}
use Rattle.arrow_meta_writer.proofs.Capping.{caps}
use Rattle.arrow_meta_writer.proofs.TypeZones.{zone_ends}
use Rattle.arrow_meta_writer.proofs.types.type_end.Goals as goal

pub returns-in-Some-clause-end : goal.returns-in-Some-clause-end
returns-in-Some-clause-end c =
    let tag = (type_view c.args.data_type.now).tag in
    let end = cells_place c.args.place (type_cells tag) in
    let zone = c.in-Some.zone.now in
    let same : Some zone ≡ zone_in tag = c.in-Some.ensures.zone in
    let table = c.type_table_end-table in
    caps (λ q. after q (text zone)) (λ q. omega (arith, reaches q (text zone))) table.result c.text_after.result end table.ensures.end c.text_after.ensures.end ∙ ap capped (zone_ends end tag (Some zone) same)

pub returns-in-None-clause-end : goal.returns-in-None-clause-end
returns-in-None-clause-end c =
    let tag = (type_view c.args.data_type.now).tag in
    let end = cells_place c.args.place (type_cells tag) in
    let same : None ≡ zone_in tag = c.in-None.ensures.zone in
    c.type_table_end-table.ensures.end ∙ ap capped (zone_ends end tag None same)
