use Rattle.std.proofs.Common.{◌≡◌, ◌≤◌, ◌+◌, ◌*◌, ◌%◌, ◌^◌, ◌++◌, ◌-◌, drop, take, length, ap, ◌∙◌, arith}
use Rattle.arrow_bits.proofs.Reading.{read_number}
use Rattle.arrow_bits.specs.Numbers.{number_at, number_bytes}
use Rattle.arrow_body_slots.proofs.Moving.{low_four, moved_to_long, one_more, same_number}
use Rattle.arrow_body_slots.proofs.spans.move_small.Goals as goal

-- one more number
pub loop-k-preserved : goal.loop-k-preserved
loop-k-preserved c =
    let old = c.args.numbers.now in
    let now = c.loop-k.numbers in
    let k = c.loop-k.k in
    let is = c.loop-k.invariant.1 in
    let room : 4 * k + 4 ≤ length old = omega (arith, c.loop-k-test.true) in
    let number : (c.read_u32.result + c.args.by) % 2 ^ 32 ≡ (number_at old (4 * k) 4 + c.args.by) % 2 ^ 32 =
    ap (λ m. (m + c.args.by) % 2 ^ 32) (c.read_u32.ensures ∙ read_number 4 (4 * k) now (omega (arith, room, c.loop-k.invariant.0)) ∙ same_number 4 c.args.by k old now is) in
    let new = one_more 4 c.args.by k old now c.write_u32.new.buf room c.loop-k.invariant.0 is
    (c.write_u32.ensures ∙ ap (λ bytes. bytes ++ drop 4 (take (length now - 4 * k) (drop (4 * k) now))) (low_four ((c.read_u32.result + c.args.by) % 2 ^ 32) ∙ ap (number_bytes 4) number)) in
    (ap length new ∙ moved_to_long 4 c.args.by (k + 1) old (omega (arith, room)), new)
