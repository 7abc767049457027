use Rattle.std.proofs.Common.{◌≡◌, refl, sym, ap, ◌∙◌, subst}
use Rattle.std.specs.List.{AllByRecursion, flat_map}
use Rattle.arrow_data.specs.Column.{values_from}
use Rattle.arrow_layout.specs.Form.{node_form}
use Rattle.arrow_data.specs.FullSlots.{value_bytes}
use Rattle.arrow_layout.specs.declared.form.Form.TheVariants as forms
use Rattle.arrow_body_slots.proofs.Running.{IsFullOf, fixed_are, full_of}
use Rattle.arrow_body_slots.proofs.slots.fixed.Goals as goal

-- they are those of the array's values
pub returns-then-holds_fixed : goal.returns-then-holds_fixed
returns-then-holds_fixed c =
    let a = c.args.slice.array.now in
    let vs = values_from a.raw c.args.slice.start c.args.slice.stop in
    let known = c.own_form-form.ensures in
    let form : node_form a.data_type.tag a.encoding ≡ forms.FixedBytes c.args.width = sym known.form ∙ c.if-holds_fixed.ensures refl in
    let all = subst (λ f. AllByRecursion (IsFullOf f a.data_type.children) vs) form (full_of a c.args.slice.start c.args.slice.stop known.known c.requires.slots.inside c.requires.full) in
    c.value_bytes.ensures ∙ ap (λ f. flat_map (value_bytes f) vs) form ∙ fixed_are c.args.width a.data_type.children vs all
