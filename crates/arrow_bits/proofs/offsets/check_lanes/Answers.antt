use Rattle.std.proofs.Common.{true≢false, sym, arith}
use Rattle.arrow_bits.proofs.Rising.{offsets_from_numbers, numbers_from_offsets}
use Rattle.arrow_bits.proofs.offsets.check_lanes.Goals as goal

-- the last is above the top, or has a sign bit
pub returns-then-from-min : goal.returns-then-from-min
returns-then-from-min c = (
  (λ t. absurd (true≢false (sym t))),
  (λ are.
      let has = numbers_from_offsets 4 c.args.bytes.now c.args.len c.args.top (λ i. (c.type_inv.bytes i).fits) are in
      absurd (omega (arith, has.low, has.le, c.if-from-min.true, c.min.ensures, c.from.ensures, c.u32_at.ensures))),
)

-- otherwise the comparison of neighbours decides
pub returns : goal.returns
returns c = (
  (λ t.
      offsets_from_numbers 4 c.args.bytes.now c.args.len c.args.top (omega (arith, c.if-len-bytes.false))
      (omega (arith, c.if-from-min.false, c.min.ensures, c.from.ensures, c.u32_at.ensures))
      (omega (arith, c.if-from-min.false, c.min.ensures, c.from.ensures, c.u32_at.ensures))
      (c.never_fall.ensures.0 t)),
  (λ are.
      let has = numbers_from_offsets 4 c.args.bytes.now c.args.len c.args.top (λ i. (c.type_inv.bytes i).fits) are in
      c.never_fall.ensures.1 has.never),
)
