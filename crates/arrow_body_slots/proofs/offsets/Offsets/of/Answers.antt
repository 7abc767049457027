use Rattle.std.proofs.Common.{refl}
use Rattle.arrow_body_slots.proofs.offsets.Offsets.of.Goals as goal

-- they are bytes
pub returns : goal.returns
returns c = record { same_width = refl; same_validity = refl; same_bytes = refl; small = λ k. (c.type_inv.bytes k).fits }
