use Rattle.std.proofs.Common.{rules, None, ◌≡◌, ◌<◌, ℕ, List, length, map, ap, sym, subst, ◌∙◌, arith}
use Rattle.std.proofs.lemmas.Grind.{common_steps}
use Rattle.std.proofs.lemmas.Result.{IfOk-weaker}
use Rattle.arrow_layout.specs.Form.{HasFieldsOf, form_of}
use Rattle.arrow_builder.specs.Buffers.{buffers_in}
use Rattle.arrow_builder.specs.Built.{AreBelow, counts_in, no_values_of}
use Rattle.arrow_builder.specs.Fields.{field_form}
use Rattle.arrow_builder.specs.Kept.{Keeps}
use Rattle.arrow_types.specs.declared.field.DataType.{the_lemmas}
use Rattle.arrow_types.specs.Field.{levels}
use Rattle.arrow_types.specs.Schema.{field_is_nested}
use Rattle.arrow_types.specs.View.{field_view}
use Rattle.arrow_builder.proofs.Beginning.{below_begun, field_flat, field_less_deep}
use Rattle.arrow_builder.proofs.Held.{counted_none, held_none}
use Rattle.arrow_builder.proofs.begin.+begin.Goals as goal

pub begin_all-begin-requires : goal.begin_all-begin-requires
begin_all-begin-requires t c =
    let d = c.field-item.result in
    let inside : c.loop-field.field-index < length c.args.fields.now = grind (arith, common_steps) in
    let same = ap field_view c.field-item.is in (
      omega (arith, c.decreases, field_less_deep c.args.fields.now c.loop-field.field-index d inside, ap (λ f. levels f.children) same),
      ap field_is_nested same ∙ field_flat c.args.fields.now c.loop-field.field-index d inside c.requires,
    )

pub begin-invariant_of-result : goal.begin-invariant_of-result
begin-invariant_of-result t c =
    let field = field_view c.in_ok-copy.field-0 in
    let b = buffers_in c.in_ok-no_slots.field-0 in
    let form : c.node_form-form.result ≡ field_form field = search (rules, the_lemmas) in
    let kept : (counts : List ℕ) → Keeps (field_form field) 0 b counts = subst (λ f. (counts : List ℕ) → Keeps f 0 b counts) form c.in_ok-no_slots.ensures in
    let own : HasFieldsOf (form_of field.head.tag) field.children = search (rules, the_lemmas) in
    record {
      few = omega arith;
      kept = kept (counts_in c.in_ok-children.children.items);
      fits = tt;
      own = own;
      below = subst (λ f. AreBelow f.head.encoding f.children c.in_ok-children.children.items) (sym c.in_ok-copy.ensures.same) c.in_ok-children.ensures;
      held = held_none (field_form field) c.in_ok-children.children.items;
      counted = counted_none (field_form field) b kept;
    }

pub begin_below-returns-in-None : goal.begin_below-returns-in-None
begin_below-returns-in-None t c =
    let plain : (field_view c.args.field.now).head.encoding ≡ None = search (rules, the_lemmas) in
    IfOk-weaker c.begin_all.result (λ v. v.items ≡ map (λ f. no_values_of (field_view f)) c.children.result.now)
    (λ v. AreBelow (field_view c.args.field.now).head.encoding (field_view c.args.field.now).children v.items)
    (λ v e. below_begun (field_view c.args.field.now).head.encoding (field_view c.args.field.now).children c.children.result.now v.items plain c.children.ensures.fields e) c.begin_all.ensures
