use Rattle.arrow_bits.proofs.Packing.{packed_empty}
use Rattle.arrow_bits.proofs.bitmap_builder.BitsBuilder.new.Goals as goal

-- no bytes are packed
pub invariant_of-result : goal.invariant_of-result
invariant_of-result c = packed_empty c.new.result.items c.new.ensures.items
