use Rattle.std.proofs.Common.{◌≡◌, ◌<◌, arith, ap, sym, subst, ◌∙◌}
use Rattle.arrow_layout.specs.Value.{value_view}
use Rattle.arrow_types.specs.View.{field_view}
use Rattle.arrow_builder.specs.Built.{Built, with_value}
use Rattle.arrow_builder.specs.Fields.{FitsField, field_form}
use Rattle.arrow_builder.proofs.NodeSlots.{leaf_grows, leaf_stays, node_len}
use Rattle.arrow_builder.proofs.Putting.{after_err}
use Rattle.arrow_builder.proofs.node.Node.push_leaf.Goals as goal

pub invariant_of-self : goal.invariant_of-self
invariant_of-self c =
    let is : c.args.form ≡ field_form (field_view c.self.inside.field) = c.requires.form ∙ ap (λ (b : Built). field_form b.field) (sym c.self.view_is) in
    (leaf_stays c.self.inside c.put_leaf.new.buffers c.args.form is c.requires.leaf c.self.invariant c.in_err-put_leaf.ensures.held c.in_err-put_leaf.ensures.stay).0

pub returns-in_err-put_leaf-clause-err : goal.returns-in_err-put_leaf-clause-err
returns-in_err-put_leaf-clause-err c =
    let is : c.args.form ≡ field_form (field_view c.self.inside.field) = c.requires.form ∙ ap (λ (b : Built). field_form b.field) (sym c.self.view_is) in
    after_err c.from_residual.result
    ((leaf_stays c.self.inside c.put_leaf.new.buffers c.args.form is c.requires.leaf c.self.invariant c.in_err-put_leaf.ensures.held c.in_err-put_leaf.ensures.stay).1 ∙ c.self.view_is)

pub invariant_of-self-2 : goal.invariant_of-self-2
invariant_of-self-2 c =
    let value = value_view c.args.value.now in
    let is : c.args.form ≡ field_form (field_view c.self.inside.field) = c.requires.form ∙ ap (λ (b : Built). field_form b.field) (sym c.self.view_is) in
    let few : c.self.inside.len < 2147483647 = omega (arith, c.requires.few, node_len c.self.inside c.args.self.now c.self.view_is) in
    let fits : FitsField (field_view c.self.inside.field) value = subst (λ (b : Built). FitsField b.field value) (sym c.self.view_is) c.requires.fits in
    (leaf_grows c.self.inside c.put_leaf.new.buffers c.args.form value is c.requires.leaf few c.self.invariant fits c.in_ok-put_leaf.ensures.kept c.in_ok-put_leaf.ensures.put).0

pub returns-clause-ok : goal.returns-clause-ok
returns-clause-ok c =
    let value = value_view c.args.value.now in
    let is : c.args.form ≡ field_form (field_view c.self.inside.field) = c.requires.form ∙ ap (λ (b : Built). field_form b.field) (sym c.self.view_is) in
    let few : c.self.inside.len < 2147483647 = omega (arith, c.requires.few, node_len c.self.inside c.args.self.now c.self.view_is) in
    let fits : FitsField (field_view c.self.inside.field) value = subst (λ (b : Built). FitsField b.field value) (sym c.self.view_is) c.requires.fits in
    (leaf_grows c.self.inside c.put_leaf.new.buffers c.args.form value is c.requires.leaf few c.self.invariant fits c.in_ok-put_leaf.ensures.kept c.in_ok-put_leaf.ensures.put).1
    ∙ ap (λ (b : Built). with_value b value) c.self.view_is
