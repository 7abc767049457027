use Rattle.std.proofs.Common.{refl}
use Rattle.arrow_bits.proofs.Compared.{lane_number}
use Rattle.arrow_bits.proofs.large_lanes.eight_at.Goals as goal

-- each lane is the number at its offset
pub returns-clause-lanes : goal.returns-clause-lanes
returns-clause-lanes c = lane_number 8 18446744073709551616 refl c.args.bytes.now c.args.at 8 c.type_inv.bytes
