use Rattle.std.proofs.Common.{ap, subst, arith}
use Rattle.std.specs.List.{AllByRecursion}
use Rattle.arrow_body_writer.proofs.Sending.{field_there}
use Rattle.arrow_body_writer.proofs.Sources.{count_above}
use Rattle.arrow_body_writer.specs.Sent.{LeadDown, sent_along}
use Rattle.arrow_body_writer.specs.Source.{IsSource, column_in}
use Rattle.arrow_body_writer.proofs.source.ColumnSource.+send.Goals as goal

-- what items send, their lists send with one more step
pub send-requires : goal.send-requires
send-requires g t c κs within =
    let steps = c.args.steps.now in
    let above = column_in c.in-Items.lists.now in
    let source = subst IsSource c.in-Items.is c.requires.source in
    let down = subst (λ s. LeadDown steps (column_in s).data_type (column_in s).encoding) c.in-Items.is c.requires.down in
    let room = subst (λ s. AllByRecursion (g.V.SlotVisitor.has_room c.args.visitor.now) (sent_along steps (column_in s).raw)) c.in-Items.is c.requires.room in
    (omega (arith, c.decreases, ap count_above c.in-Items.is), (within.0, (within.1, (source.0, ((source.1, field_there above.data_type.children 0 steps source.2 down), room)))))

-- and what a field sends, its structs send with one more step
pub send-requires-in-Field : goal.send-requires-in-Field
send-requires-in-Field g t c κs within =
    let steps = c.args.steps.now in
    let k = c.in-Field.k in
    let above = column_in c.in-Field.structs.now in
    let source = subst IsSource c.in-Field.is c.requires.source in
    let down = subst (λ s. LeadDown steps (column_in s).data_type (column_in s).encoding) c.in-Field.is c.requires.down in
    let room = subst (λ s. AllByRecursion (g.V.SlotVisitor.has_room c.args.visitor.now) (sent_along steps (column_in s).raw)) c.in-Field.is c.requires.room in
    (omega (arith, c.decreases, ap count_above c.in-Field.is), (within.0, (within.1, (source.0, ((source.1, field_there above.data_type.children k steps source.2 down), room)))))
