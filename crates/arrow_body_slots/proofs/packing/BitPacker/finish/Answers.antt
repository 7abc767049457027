use Rattle.std.proofs.Common.{◌∙◌}
use Rattle.arrow_body_slots.proofs.Packs.{bits_end, no_bits_left}
use Rattle.arrow_body_slots.proofs.packing.BitPacker.finish.Goals as goal

-- the last byte has bits
pub returns-in_ok-push : goal.returns-in_ok-push
returns-in_ok-push c before bits p = c.in_ok-push.ensures.items ∙ bits_end before bits c.args.self.byte c.args.self.weight c.args.out.now.items p c.if-self-ne1.true

-- there is no such byte
pub returns-else-self-ne1 : goal.returns-else-self-ne1
returns-else-self-ne1 c before bits p = no_bits_left before bits c.args.self.byte c.args.self.weight c.args.out.now.items p c.if-self-ne1.false
