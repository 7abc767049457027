use Rattle.std.proofs.Common.{arith, w64}
use Rattle.arrow_bits.proofs.Compared.{lanes_hold, block_falls_not}
use Rattle.arrow_bits.proofs.large_lanes.eight_rise.Goals as goal

-- the lanes are the numbers
pub returns : goal.returns
returns c =
    let low = c.eight_at-low.ensures in
    let high = c.eight_at-high.ensures in
    let hold = lanes_hold w64 8 c.eight_at-low.result c.eight_at-high.result (omega arith) low.long high.long in
    let numbers = block_falls_not 8 c.args.bytes.now c.args.i 8 in (
      (λ t. numbers.0 (λ k h. omega (arith, hold.0 t k h, low.lanes k h, high.lanes k h))),
      (λ never. hold.1 (λ k h. omega (arith, numbers.1 never k h, low.lanes k h, high.lanes k h))),
    )
