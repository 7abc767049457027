use Rattle.std.proofs.Common.{ap, sym, ◌∙◌, subst}
use Rattle.arrow_types.specs.View.{type_view}
use Rattle.arrow_data.specs.Column.{HasChild}
use Rattle.arrow_layout.specs.ByteRanges.{bytes_of}
use Rattle.arrow_data.specs.Node.{AreRanges, column_by}
use Rattle.arrow_data.specs.declared.array.Ranges.TheVariants.{Lists}
use Rattle.arrow_data.proofs.Children.{child_shown}
use Rattle.arrow_data.proofs.Fitting.{part_small}
use Rattle.arrow_data.proofs.array.Array.items.Goals as goal

pub returns-in-Lists : goal.returns-in-Lists
returns-in-Lists c =
    let a = c.self.inside in
    let t = type_view a.data_type.value in
    let w = c.in-Lists.form in
    let v = c.in-Lists.validity in
    let o = c.in-Lists.offsets in
    let ok = subst (AreRanges a.len t a.encoding a.body) c.in-Lists.is c.self.invariant.1 in
    let is = sym c.self.view_is ∙ ap (λ r. column_by t a.encoding a.len a.body r) c.in-Lists.is ∙ ap (λ e. column_by t e a.len a.body (Lists w v o c.in-Lists.child)) ok.0 in
    subst (HasChild c.args.self.now) (sym c.deref.ensures) (child_shown c.args.self.now t w a.len (bytes_of a.body v) (bytes_of a.body o) c.in-Lists.child.value is ok.1 ok.2.typed ok.2.known (part_small a.body o c.self.invariant.2) ok.2.laid.rising)
