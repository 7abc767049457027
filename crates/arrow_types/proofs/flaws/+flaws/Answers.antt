use Rattle.std.proofs.Common.{arith}
use Rattle.arrow_types.proofs.Fields.{fewer_below}
use Rattle.arrow_types.proofs.flaws.+flaws.Goals as goal

-- fewer fields are below one of them
pub some_flawed-field_is_flawed-requires : goal.some_flawed-field_is_flawed-requires
some_flawed-field_is_flawed-requires t c =
    let fewer = fewer_below c.args.fields.now c.loop-field.field-index c.field-item.result c.loop-field-test.true c.field-item.is in
    (omega (arith, c.decreases, fewer), tt)
