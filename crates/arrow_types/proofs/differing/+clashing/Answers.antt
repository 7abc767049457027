use Rattle.std.proofs.Common.{arith}
use Rattle.arrow_types.proofs.Fields.{fewer_below}
use Rattle.arrow_types.proofs.differing.+clashing.Goals as goal

-- the fields below one of them are fewer
pub some_clash-clashes-requires : goal.some_clash-clashes-requires
some_clash-clashes-requires t c =
    let fewer = fewer_below c.args.fields.now c.loop-field.field-index c.field-item.result c.loop-field-test.true c.field-item.is in
    (omega (arith, c.decreases, fewer), tt)
