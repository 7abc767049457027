use Rattle.arrow_body_slots.proofs.Packs.{no_bits}
use Rattle.arrow_body_slots.proofs.packing.BitPacker.new.Goals as goal

pub returns-clause-none : goal.returns-clause-none
returns-clause-none c = no_bits
