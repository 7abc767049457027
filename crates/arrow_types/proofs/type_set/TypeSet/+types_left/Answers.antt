use Rattle.std.proofs.Common.{arith}
use Rattle.arrow_types.proofs.Fields.{fewer_below}
use Rattle.arrow_types.proofs.type_set.TypeSet.+types_left.Goals as goal

-- the fields below one of them are fewer
pub leaves_some_out-leaves_field_out-requires : goal.leaves_some_out-leaves_field_out-requires
leaves_some_out-leaves_field_out-requires t c =
    let fewer = fewer_below c.args.fields.now c.loop-field.field-index c.field-item.result c.loop-field-test.true c.field-item.is in
    (omega (arith, c.decreases, fewer), tt)
