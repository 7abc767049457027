use Rattle.std.proofs.Common.{◌≡◌, ◌≤◌, ◌+◌, ◌*◌, ◌%◌, ◌^◌, ◌++◌, ◌-◌, drop, take, length, ap, ◌∙◌, arith}
use Rattle.arrow_bits.proofs.Reading.{read_number}
use Rattle.arrow_bits.specs.Numbers.{number_at, number_bytes}
use Rattle.arrow_body_slots.proofs.Moving.{low_eight, moved_to_long, one_more, same_number}
use Rattle.arrow_body_slots.proofs.spans.move_large.Goals as goal

-- one more number
pub loop-k-preserved : goal.loop-k-preserved
loop-k-preserved c =
    let old = c.args.numbers.now in
    let now = c.loop-k.numbers in
    let k = c.loop-k.k in
    let is = c.loop-k.invariant.1 in
    let room : 8 * k + 8 ≤ length old = omega (arith, c.loop-k-test.true) in
    let number : (c.read_u64.result + c.args.by) % 2 ^ 64 ≡ (number_at old (8 * k) 8 + c.args.by) % 2 ^ 64 =
    ap (λ m. (m + c.args.by) % 2 ^ 64) (c.read_u64.ensures ∙ read_number 8 (8 * k) now (omega (arith, room, c.loop-k.invariant.0)) ∙ same_number 8 c.args.by k old now is) in
    let new = one_more 8 c.args.by k old now c.write_u64.new.buf room c.loop-k.invariant.0 is
    (c.write_u64.ensures ∙ ap (λ bytes. bytes ++ drop 8 (take (length now - 8 * k) (drop (8 * k) now))) (low_eight ((c.read_u64.result + c.args.by) % 2 ^ 64) ∙ ap (number_bytes 8) number)) in
    (ap length new ∙ moved_to_long 8 c.args.by (k + 1) old (omega (arith, room)), new)
