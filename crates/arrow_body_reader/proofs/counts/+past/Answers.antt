use Rattle.std.proofs.Common.{◌+◌, drop, ap, sym, ◌∙◌, arith}
use Rattle.arrow_types.specs.View.{field_view, fields_view}
use Rattle.arrow_body_reader.specs.Taken.{taken_nodes}
use Rattle.arrow_body_reader.proofs.Taking.{fewer_taken, nodes_left}
use Rattle.arrow_types.proofs.Fields.{fields_from}
use Rattle.arrow_body_reader.proofs.counts.+past.Goals as goal

pub past-after_one-rest-requires : goal.past-after_one-rest-requires
past-after_one-rest-requires t c =
    let f = c.field-item.result in
    let step = fields_from c.args.fields.now c.loop-field.field-index f c.loop-field-test.true c.field-item.is in
    let fewer = fewer_taken c.args.fields.now c.loop-field.field-index f c.loop-field-test.true c.field-item.is in
    (omega (arith, c.decreases, fewer), tt)

pub past-loop-field-preserved : goal.past-loop-field-preserved
past-loop-field-preserved t c =
    let f = c.field-item.result in
    let h = (field_view f).head in
    let ch = (field_view f).children in
    let rest = fields_view (drop (c.loop-field.field-index + 1) c.args.fields.now) in
    let ns = c.loop-field.rest.now in
    let step = fields_from c.args.fields.now c.loop-field.field-index f c.loop-field-test.true c.field-item.is in
    nodes_left h ch rest ns c.after_one-rest.result.now c.after_one-rest.ensures ∙ ap (λ v. drop (taken_nodes v) ns) (sym step) ∙ c.loop-field.invariant
