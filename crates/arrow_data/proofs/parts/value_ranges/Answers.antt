use Rattle.std.proofs.lemmas.Grind.{common_steps}
use Rattle.std.proofs.Common.{◌≡◌, ◌≤◌, length, sym, ◌∙◌, subst, refl, arith}
use Rattle.arrow_types.specs.View.{type_view}
use Rattle.arrow_layout.specs.Form.{HasFieldsOf, buffers_of, form_of}
use Rattle.arrow_layout.specs.declared.form.Form.TheVariants as forms
use Rattle.arrow_data.proofs.NodeParts.{list_lies, list_same, one_child, struct_lies, struct_same}
use Rattle.arrow_data.proofs.parts.value_ranges.Goals as goal

pub only-requires : goal.only-requires
only-requires c =
    one_child (type_view c.args.data_type.now).children c.args.children.items (subst (λ f. HasFieldsOf f (type_view c.args.data_type.now).children) c.in-Lists.is c.form_of-form.ensures.below) c.requires.children

pub returns-in_ok-new-in-Lists-clause-lies : goal.returns-in_ok-new-in-Lists-clause-lies
returns-in_ok-new-in-Lists-clause-lies c =
    let t = type_view c.args.data_type.now in
    let w = c.in-Lists.list in
    let form : form_of t.tag ≡ forms.Lists w = sym c.form_of-form.ensures.same ∙ c.in-Lists.is in
    let many = subst (λ x. buffers_of x ≤ length c.args.node.ranges.now) form c.requires.count in
    let lies = list_lies w t c.args.node.len c.args.node.body.now c.args.node.ranges.now (record { start = 0; end = 0 }) c.args.children.items c.only.result form c.only.ensures c.requires.children (rw c.deref.ensures.value at c.opened.ensures) many c.requires.inside c.requires.layout in
    (refl, form, rw (c.in_ok-new-in-Lists.ensures.ok, c.list_range.ensures) lies)

pub returns-in_ok-new-in-Lists-clause-same : goal.returns-in_ok-new-in-Lists-clause-same
returns-in_ok-new-in-Lists-clause-same c =
    let t = type_view c.args.data_type.now in
    let w = c.in-Lists.list in
    let form : form_of t.tag ≡ forms.Lists w = sym c.form_of-form.ensures.same ∙ c.in-Lists.is in
    let many = subst (λ x. buffers_of x ≤ length c.args.node.ranges.now) form c.requires.count in
    let same = list_same w t c.args.node.len c.args.node.body.now c.args.node.ranges.now (record { start = 0; end = 0 }) c.args.children.items c.in_ok-new-in-Lists.field-0 form (rw c.in_ok-new-in-Lists.ensures.ok c.only.ensures) many in
    rw c.list_range.ensures same

pub returns-in-Structs-clause-lies : goal.returns-in-Structs-clause-lies
returns-in-Structs-clause-lies c =
    let t = type_view c.args.data_type.now in
    let form : form_of t.tag ≡ forms.Structs = sym c.form_of-form.ensures.same ∙ c.in-Structs.is in
    let one : 1 ≤ length c.args.node.ranges.now = subst (λ x. buffers_of x ≤ length c.args.node.ranges.now) form c.requires.count in
    (refl, form, struct_lies t c.args.node.len c.args.node.body.now c.args.node.ranges.now (record { start = 0; end = 0 }) c.args.children.items form c.requires.children (rw c.deref.ensures.value at c.opened.ensures) one c.requires.inside c.requires.layout)

pub returns-in-Structs-clause-same : goal.returns-in-Structs-clause-same
returns-in-Structs-clause-same c =
    let t = type_view c.args.data_type.now in
    let form : form_of t.tag ≡ forms.Structs = sym c.form_of-form.ensures.same ∙ c.in-Structs.is in
    let one : 1 ≤ length c.args.node.ranges.now = subst (λ x. buffers_of x ≤ length c.args.node.ranges.now) form c.requires.count in
    struct_same t c.args.node.len c.args.node.body.now c.args.node.ranges.now (record { start = 0; end = 0 }) c.args.children form one

pub bounds-node-0 : goal.bounds-node-0
bounds-node-0 c = grind (arith, common_steps)

pub returns-in_err-new-in-Lists-clause-lies : goal.returns-in_err-new-in-Lists-clause-lies
returns-in_err-new-in-Lists-clause-lies c = grind (arith, common_steps)

pub returns-in_err-new-in-Lists-clause-same : goal.returns-in_err-new-in-Lists-clause-same
returns-in_err-new-in-Lists-clause-same c = grind (arith, common_steps)

pub bounds-node-0-in-Structs : goal.bounds-node-0-in-Structs
bounds-node-0-in-Structs c = grind (arith, common_steps)
