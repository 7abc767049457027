use Rattle.std.proofs.Common.{ap, ◌+◌, ◌≡◌, ◌*◌, drop, ◌∙◌, arith, length-drop}
use Rattle.std.proofs.lemmas.List.{get_or-take, get_or-drop, length-take-le}
use Rattle.arrow_bits.specs.Numbers.{number_at}
use Rattle.arrow_bits.proofs.Reading.{read_byte}
use Rattle.arrow_bits.proofs.at_most.sixty_four_at.Goals as goal

-- there are that many bytes
pub returns-clause-long : goal.returns-clause-long
returns-clause-long c = length-take-le 64 (drop c.args.at c.args.bytes.now) (omega (arith, c.requires, length-drop c.args.at c.args.bytes.now))

-- each lane is the byte at its offset
pub returns-clause-lanes : goal.returns-clause-lanes
returns-clause-lanes c k h =
    let bytes = c.args.bytes.now in
    let at = c.args.at in
    let one : at + k ≡ at + 1 * k = omega arith in
    get_or-take 64 (drop at bytes) k 0 h ∙ get_or-drop at bytes k 0 ∙ read_byte (at + k) bytes (omega (arith, h, c.requires)) ∙ ap (λ p. number_at bytes p 1) one
