use Rattle.std.proofs.Common.{refl}
use Rattle.arrow_body_slots.proofs.masked.of_width.Goals as goal

-- they are bytes
pub returns-then-own-width : goal.returns-then-own-width
returns-then-own-width c = (c.if-own-width.true, refl, λ k. (c.type_inv.values k).fits)
