use Rattle.std.proofs.Common.{sym, subst}
use Rattle.arrow_types.specs.View.{type_view}
use Rattle.arrow_data.specs.Column.{counts_of}
use Rattle.arrow_layout.specs.Form.{node_form}
use Rattle.arrow_layout.specs.Layout.{IsLaid}
use Rattle.arrow_builder.specs.Buffers.{buffers_in}
use Rattle.arrow_builder.proofs.Finishing.{keeps_holds}
use Rattle.arrow_builder.proofs.finish.array_of.Goals as goal

pub from_parts-requires-clause-layout : goal.from_parts-requires-clause-layout
from_parts-requires-clause-layout c =
    let t = type_view c.args.field.now.data_type in
    let e = c.args.field.now.dictionary in
    let counts = counts_of c.args.below.children.items in
    subst (λ b. IsLaid t.tag e c.args.slots.len b counts) (sym c.in_ok-body.ensures.same) (keeps_holds (node_form t.tag e) c.args.slots.len (buffers_in c.args.slots.buffers.now) counts c.requires.kept)
