use Rattle.std.proofs.Common.{ap, arith}
use Rattle.arrow_types.specs.Field.{count}
use Rattle.arrow_types.proofs.Fields.{fewer_below}
use Rattle.arrow_layout.proofs.shared_type.+types.Goals as goal

-- there are fewer fields below a field
pub push_types-requires : goal.push_types-requires
push_types-requires t c =
    let fewer = fewer_below c.args.fields.now c.loop-field.field-index c.field-item.result c.loop-field-test.true c.field-item.is in
    (omega (arith, c.decreases, fewer, ap count c.children.ensures.fields), tt)
