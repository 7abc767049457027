use Rattle.std.proofs.Common.{arith}
use Rattle.arrow_bits.proofs.Rising.{offsets_rise, offsets_inside, offsets_signed}
use Rattle.arrow_bits.proofs.offsets.Offsets.new_unchecked.Goals as goal

-- the bytes have room for the offsets, and these do not fall
pub invariant_of-result : goal.invariant_of-result
invariant_of-result c = (omega (arith, c.requires.there), offsets_rise 4 c.args.bytes.now c.args.len c.args.top (λ i. (c.type_inv.bytes i).fits) c.requires)

-- each is the signed number at its index
pub returns-clause-signed : goal.returns-clause-signed
returns-clause-signed c = offsets_signed 4 c.args.bytes.now c.args.len c.args.top (λ i. (c.type_inv.bytes i).fits) c.requires

-- none is below an earlier one
pub returns-clause-order : goal.returns-clause-order
returns-clause-order c = offsets_rise 4 c.args.bytes.now c.args.len c.args.top (λ i. (c.type_inv.bytes i).fits) c.requires

-- none is above the top
pub returns-clause-inside : goal.returns-clause-inside
returns-clause-inside c = offsets_inside 4 c.args.bytes.now c.args.len c.args.top (λ i. (c.type_inv.bytes i).fits) c.requires
