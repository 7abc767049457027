use Rattle.std.proofs.Common.{ap, sym, ◌∙◌, subst, arith}
use Rattle.std.proofs.lemmas.List.{at_drop_all}
use Rattle.arrow_types.proofs.Fields.{fewer_below, fields_from}
use Rattle.arrow_types.specs.Field.{TypeShape, count}
use Rattle.arrow_types.specs.View.{field_view, fields_view, type_view}
use Rattle.arrow_layout.specs.Form.{HasFieldsOf, form_of}
use Rattle.arrow_body_reader.specs.Taken.{taken_nodes}
use Rattle.arrow_body_laws.specs.Formed.{AreFormed}
use Rattle.arrow_body_writer.proofs.Forming.{IsBelow, below_encoded, below_plain}
use Rattle.arrow_body_writer.proofs.Children.{same_encoding, same_type}
use Rattle.arrow_body_slots.specs.Tally.{capped}
use Rattle.arrow_body_writer.proofs.forms.+counted.Goals as goal
use Rattle.arrow_body_writer.proofs.forms.+counted.Goals.{count_nodes-in-Some, count_nodes-in-None}

-- there are fewer fields below a field
pub count_nodes-count_below-below-requires : goal.count_nodes-count_below-below-requires
count_nodes-count_below-below-requires t c =
    let f = c.field-item.result in
    (omega (arith, c.decreases, fewer_below c.args.fields.now c.loop-field.field-index f c.loop-field-test.true c.field-item.is, ap (λ (s : TypeShape). count s.children) (same_type f)), tt)

-- one more field
pub count_nodes-loop-field-preserved : goal.count_nodes-loop-field-preserved
count_nodes-loop-field-preserved t c =
    let f = c.field-item.result in
    let h = (field_view f).head in
    let children = (field_view f).children in
    let step = fields_from c.args.fields.now c.loop-field.field-index f c.loop-field-test.true c.field-item.is in
    let P = HasFieldsOf (form_of h.tag) children × AreFormed children in
    let own : HasFieldsOf (form_of (type_view f.data_type).tag) (type_view f.data_type).children × AreFormed (type_view f.data_type).children → P =
    subst (λ (s : TypeShape). HasFieldsOf (form_of s.tag) s.children × AreFormed s.children) (same_type f) in
    let below : IsBelow h.encoding (taken_nodes children) c.match-field.below P = elim c.match-field.branch [
      | count_nodes-in-Some w ↦ below_encoded h.encoding w.in-Some.field-0 (taken_nodes children) c.match-field.below P (sym (same_encoding f) ∙ w.in-Some.is) w.below-is
      | count_nodes-in-None w ↦ below_plain h.encoding (taken_nodes children) c.match-field.below P (sym (same_encoding f) ∙ w.in-None.is)
          (w.below-is ∙ w.count_below-below.ensures.count ∙ ap (λ (s : TypeShape). capped (taken_nodes s.children)) (same_type f)) (own (w.count_below-below.ensures.own, w.count_below-below.ensures.formed))
    ] in (
      omega (arith, c.loop-field.invariant.0, ap taken_nodes step, below.count, c.saturating_add.ensures, c.saturating_add-count.ensures),
      omega (arith, c.saturating_add-count.ensures),
      λ rest. c.loop-field.invariant.2 (subst AreFormed (sym step) (below.known, rest)),
    )

-- all fields
pub count_nodes-returns-clause-count : goal.count_nodes-returns-clause-count
count_nodes-returns-clause-count t c =
    let none_left = at_drop_all (λ fs. taken_nodes (fields_view fs)) c.args.fields.now c.loop-field.field-index c.loop-field-test.false in
    omega (arith, c.loop-field.invariant.0, c.loop-field.invariant.1, none_left)
