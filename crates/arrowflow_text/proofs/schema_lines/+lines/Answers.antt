use Rattle.std.proofs.Common.{ap, arith}
use Rattle.arrow_types.specs.Field.{levels}
use Rattle.arrow_types.proofs.Fields.{fewer_below, fields_from}
use Rattle.arrowflow_text.proofs.schema_lines.+lines.Goals as goal

-- there are fewer fields below one of the fields, and none is too deep
pub push_fields-push_field-requires : goal.push_fields-push_field-requires
push_fields-push_field-requires t c =
    let fewer = fewer_below c.args.fields.now c.loop-field.field-index c.field-item.result c.loop-field-test.true c.field-item.is in
    let step = fields_from c.args.fields.now c.loop-field.field-index c.field-item.result c.loop-field-test.true c.field-item.is in
    (omega (arith, c.decreases, fewer), omega (arith, c.loop-field.invariant.0, ap levels step))
