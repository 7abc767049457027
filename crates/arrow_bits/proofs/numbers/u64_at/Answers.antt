use Rattle.std.proofs.Common.{◌∙◌}
use Rattle.arrow_bits.proofs.Reading.{read_number}
use Rattle.arrow_bits.proofs.numbers.u64_at.Goals as goal

-- byteorder reads the number there
pub returns : goal.returns
returns c = c.read_u64.ensures ∙ read_number 8 c.args.place c.args.bytes.now c.requires
