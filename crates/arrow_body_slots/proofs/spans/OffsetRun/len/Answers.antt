use Rattle.std.proofs.Common.{arith}
use Rattle.arrow_body_slots.proofs.Spanning.{reach}
use Rattle.arrow_body_slots.proofs.spans.OffsetRun.len.Goals as goal

-- the total length of all slots
pub returns : goal.returns
returns c = λ long raw are. omega (arith, c.at.ensures, c.at-2.ensures, c.at.type_inv, reach c.args.self long raw are)
