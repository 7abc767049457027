use Rattle.std.proofs.Common.{List, refl, ap, ◌∙◌}
use Rattle.arrow_flatbuf.specs.declared.layout.FieldValue.{FieldValue}
use Rattle.arrow_flatbuf.specs.Layout.{gap, table_end}
use Rattle.arrow_flatbuf.proofs.Laid.{table_end-slots}
use Rattle.arrow_types.specs.View.{type_view}
use Rattle.arrow_meta_writer.specs.Capped.{capped}
use Rattle.arrow_meta_writer.specs.Layouts.{type_cells}
use Rattle.arrow_meta_writer.proofs.types.type_table_end.Goals as goal

pub returns-clause-end : goal.returns-clause-end
unfolding gap
returns-clause-end c =
    let p = c.args.place in
    let same = c.as_slice.ensures.slots ∙ c.type_slots.ensures.slots 0 refl in
    c.table_after.ensures.end ∙ ap (λ (ss : List FieldValue). capped (table_end p ss)) same ∙ ap capped (table_end-slots p 0 (type_cells (type_view c.args.data_type.now).tag))
