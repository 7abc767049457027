use Rattle.std.proofs.Common.{sym}
use Rattle.arrow_body_slots.proofs.Shown.{span_is}
use Rattle.arrow_body_slots.proofs.slots.span.Goals as goal

-- the number of items is the number of slots between the offsets
pub returns-in-Some : goal.returns-in-Some
returns-in-Some c = sym (span_is c.args.array.now c.args.i _ _ _ c.in-Some.ensures)
