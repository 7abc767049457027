use Rattle.std.proofs.Common.{◌∙◌, rules}
use Rattle.arrow_bits.proofs.Reading.{read_byte}
use Rattle.arrow_bits.proofs.numbers.read_unsigned.Goals as goal

-- one byte is its own number
pub returns-in-1 : goal.returns-in-1
returns-in-1 c = rw c.in-1.is (c.from.ensures ∙ read_byte c.args.place c.args.bytes.now (search rules))
