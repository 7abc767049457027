use Rattle.std.proofs.Common.{arith}
use Rattle.arrow_types.proofs.Fields.{fewer_below}
use Rattle.arrow_types.proofs.size.+levels.Goals as goal

-- the fields below one of them are fewer
pub have_levels-has_levels-requires : goal.have_levels-has_levels-requires
have_levels-has_levels-requires t c =
    let fewer = fewer_below c.args.fields.now c.loop-field.field-index c.field-item.result c.loop-field-test.true c.field-item.is in
    (omega (arith, c.decreases, fewer), tt)
