use Rattle.std.proofs.Common.{ap, arith}
use Rattle.arrow_types.specs.Field.{count}
use Rattle.arrow_body_reader.proofs.Taking.{fewer_taken}
use Rattle.arrow_types.proofs.Fields.{fields_from}
use Rattle.arrow_body_reader.proofs.fit.+fit.Goals as goal

pub all_fit-all_below_fit-requires : goal.all_fit-all_below_fit-requires
all_fit-all_below_fit-requires t c =
    let f = c.field-item.result in
    let step = fields_from c.args.fields.now c.loop-field.field-index f c.loop-field-test.true c.field-item.is in
    let fewer = fewer_taken c.args.fields.now c.loop-field.field-index f c.loop-field-test.true c.field-item.is in
    (omega (arith, c.decreases, fewer, ap count c.below.ensures), tt)
