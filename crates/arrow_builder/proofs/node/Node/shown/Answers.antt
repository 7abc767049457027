use Rattle.std.proofs.Common.{◌≡◌, ◌+◌, ◌*◌, ◌<◌, ◌≤◌, length, take, ap, sym, ◌∙◌, subst, arith}
use Rattle.std.proofs.lemmas.Grind.{common_steps}
use Rattle.arrow_types.specs.View.{field_view}
use Rattle.arrow_layout.specs.Form.{offset_bytes}
use Rattle.arrow_layout.specs.Slots.{place_of}
use Rattle.arrow_layout.specs.declared.form.Form.TheVariants as forms
use Rattle.arrow_layout.specs.declared.form.ListForm.TheVariants as lists
use Rattle.arrow_builder.specs.Built.{Built}
use Rattle.arrow_builder.specs.Columns.{child_column}
use Rattle.arrow_builder.specs.Fields.{field_form}
use Rattle.arrow_builder.specs.Kept.{offset_bound}
use Rattle.arrow_builder.proofs.Below.{lists_kept, lists_shown}
use Rattle.arrow_builder.proofs.NodeSlots.{node_len}
use Rattle.arrow_builder.proofs.node.Node.shown.Goals as goal

pub place_at-requires-clause-there : goal.place_at-requires-clause-there
place_at-requires-clause-there c =
    let width = c.in-Lists-Offsets.width in
    let form : field_form (field_view c.self.inside.field) ≡ forms.Lists (lists.Offsets width) =
    ap (λ (b : Built). field_form b.field) c.self.view_is ∙ sym c.form.ensures ∙ c.in-Lists-Offsets.is ∙ ap forms.Lists c.in-Lists-Offsets.field-0-is in
    let le : c.args.len ≤ c.self.inside.len = omega (arith, c.requires, node_len c.self.inside c.args.self.now c.self.view_is) in
    let same : c.deref.result.now ≡ c.self.inside.buffers.values.items = grind (arith, common_steps) in
    subst (λ o. offset_bytes width * (c.args.len + 1) ≤ length o) (sym same) (lists_kept c.self.inside (lists.Offsets width) c.args.len form le c.self.invariant).ranges.there

pub place_at-requires-clause-low : goal.place_at-requires-clause-low
place_at-requires-clause-low c =
    let width = c.in-Lists-Offsets.width in
    let form : field_form (field_view c.self.inside.field) ≡ forms.Lists (lists.Offsets width) =
    ap (λ (b : Built). field_form b.field) c.self.view_is ∙ sym c.form.ensures ∙ c.in-Lists-Offsets.is ∙ ap forms.Lists c.in-Lists-Offsets.field-0-is in
    let le : c.args.len ≤ c.self.inside.len = omega (arith, c.requires, node_len c.self.inside c.args.self.now c.self.view_is) in
    let same : c.deref.result.now ≡ c.self.inside.buffers.values.items = grind (arith, common_steps) in
    subst (λ o. place_of width o c.args.len < offset_bound width) (sym same) (lists_kept c.self.inside (lists.Offsets width) c.args.len form le c.self.invariant).ranges.low

pub returns-in-Lists-Offsets : goal.returns-in-Lists-Offsets
returns-in-Lists-Offsets c k =
    let width = c.in-Lists-Offsets.width in
    let form : field_form (field_view c.self.inside.field) ≡ forms.Lists (lists.Offsets width) =
    ap (λ (b : Built). field_form b.field) c.self.view_is ∙ sym c.form.ensures ∙ c.in-Lists-Offsets.is ∙ ap forms.Lists c.in-Lists-Offsets.field-0-is in
    let le : c.args.len ≤ c.self.inside.len = omega (arith, c.requires, node_len c.self.inside c.args.self.now c.self.view_is) in
    let same : c.deref.result.now ≡ c.self.inside.buffers.values.items = grind (arith, common_steps) in
    c.place_at.ensures ∙ ap (λ o. place_of width o c.args.len) same ∙ lists_shown c.self.inside (lists.Offsets width) c.args.len form le c.self.invariant k
    ∙ ap (λ (b : Built). length (child_column (field_form b.field) k (take c.args.len b.raw))) c.self.view_is

pub sized_place-requires : goal.sized_place-requires
sized_place-requires c = omega (arith, c.requires, node_len c.self.inside c.args.self.now c.self.view_is, c.self.invariant.few)

pub returns-in-Lists-Fixed : goal.returns-in-Lists-Fixed
returns-in-Lists-Fixed c k =
    let size = c.in-Lists-Fixed.size in
    let form : field_form (field_view c.self.inside.field) ≡ forms.Lists (lists.Fixed size) =
    ap (λ (b : Built). field_form b.field) c.self.view_is ∙ sym c.form.ensures ∙ c.in-Lists-Fixed.is ∙ ap forms.Lists c.in-Lists-Fixed.field-0-is in
    let le : c.args.len ≤ c.self.inside.len = omega (arith, c.requires, node_len c.self.inside c.args.self.now c.self.view_is) in
    c.sized_place.ensures ∙ lists_shown c.self.inside (lists.Fixed size) c.args.len form le c.self.invariant k
    ∙ ap (λ (b : Built). length (child_column (field_form b.field) k (take c.args.len b.raw))) c.self.view_is
