use Rattle.std.proofs.Common.{arith, w32}
use Rattle.arrow_bits.proofs.Compared.{lanes_hold, block_falls_not}
use Rattle.arrow_bits.proofs.lanes.sixteen_rise.Goals as goal

-- the lanes are the numbers
pub returns : goal.returns
returns c =
    let low = c.sixteen_at-low.ensures in
    let high = c.sixteen_at-high.ensures in
    let hold = lanes_hold w32 16 c.sixteen_at-low.result c.sixteen_at-high.result (omega arith) low.long high.long in
    let numbers = block_falls_not 4 c.args.bytes.now c.args.i 16 in (
      (λ t. numbers.0 (λ k h. omega (arith, hold.0 t k h, low.lanes k h, high.lanes k h))),
      (λ never. hold.1 (λ k h. omega (arith, numbers.1 never k h, low.lanes k h, high.lanes k h))),
    )
