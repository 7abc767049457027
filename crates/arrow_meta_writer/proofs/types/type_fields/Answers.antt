use Rattle.std.proofs.Common.{length, refl, ap, ◌∙◌}
use Rattle.arrow_flatbuf.specs.Layout.{gap}
use Rattle.arrow_flatbuf.proofs.Laid.{length-slots}
use Rattle.arrow_types.specs.View.{type_view}
use Rattle.arrow_meta_writer.specs.Layouts.{type_cells}
use Rattle.arrow_meta_writer.proofs.types.type_fields.Goals as goal

pub returns-clause-count : goal.returns-clause-count
unfolding gap
returns-clause-count c =
    ap length (c.as_slice.ensures.slots ∙ c.type_slots.ensures.slots 0 refl) ∙ length-slots 0 (type_cells (type_view c.args.data_type.now).tag)
