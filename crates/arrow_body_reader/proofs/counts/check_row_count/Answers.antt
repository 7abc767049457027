use Rattle.std.proofs.Common.{◌≡◌, ◌+◌, drop, sym, subst, arith}
use Rattle.std.specs.List.{AllByRecursion}
use Rattle.arrow_types.specs.View.{field_view, fields_view}
use Rattle.arrow_body_reader.specs.Sound.{lengths_of, slots_at}
use Rattle.arrow_body_reader.proofs.Taking.{node_after}
use Rattle.arrow_types.proofs.Fields.{fields_from}
use Rattle.arrow_body_reader.proofs.counts.check_row_count.Goals as goal

pub loop-field-preserved : goal.loop-field-preserved
loop-field-preserved c =
    let f = c.field-item.result in
    let h = (field_view f).head in
    let ch = (field_view f).children in
    let rest = fields_view (drop (c.loop-field.field-index + 1) c.args.fields.now) in
    let ns = c.loop-field.rest.now in
    let ns' = c.after_one-rest.result.now in
    let inv = c.loop-field.invariant in
    let step = fields_from c.args.fields.now c.loop-field.field-index f c.loop-field-test.true c.field-item.is in
    let next = node_after h ch ns ns' c.after_one-rest.ensures in
    let here : slots_at ns ≡ c.args.rows = omega (arith, c.slots.ensures, c.if-slots-rows.false) in (
      λ x. inv.0 (subst (λ v. AllByRecursion (λ n. n ≡ c.args.rows) (lengths_of v ns)) (sym step) (here, subst (λ y. AllByRecursion (λ n. n ≡ c.args.rows) (lengths_of rest y)) next x)),
      λ w. subst (λ y. AllByRecursion (λ n. n ≡ c.args.rows) (lengths_of rest y)) (sym next) ((subst (λ v. AllByRecursion (λ n. n ≡ c.args.rows) (lengths_of v ns)) step (inv.1 w)).1),
    )
