use Rattle.std.proofs.Common.{arith}
use Rattle.arrow_types.proofs.Fields.{fewer_below}
use Rattle.arrow_types.proofs.nesting.+nesting.Goals as goal

-- the fields below one of them are fewer
pub are_nested-has_nested-requires : goal.are_nested-has_nested-requires
are_nested-has_nested-requires t c =
    let fewer = fewer_below c.args.fields.now c.loop-field.field-index c.field-item.result c.loop-field-test.true c.field-item.is in
    (omega (arith, c.decreases, fewer), tt)
