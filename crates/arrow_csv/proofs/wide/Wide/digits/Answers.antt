use Rattle.std.proofs.Common.{◌≡◌, ◌+◌, ◌-◌, ◌*◌, ◌++◌, ℕ, drop, subst, arith}
use Rattle.arrow_csv.specs.Wide.{last_digits, wide_number}
use Rattle.arrow_csv.proofs.LastDigits.{all_written, chunk_next}
use Rattle.arrow_csv.proofs.wide.Wide.digits.Goals as goal

-- the digits of one more chunk come before those that are there
pub loop-turn-preserved : goal.loop-turn-preserved
loop-turn-preserved c more =
    let l = c.loop-turn in
    let divided = c.divided-rest.ensures in
    chunk_next l.digits c.put_digits.new.digits l.turn (wide_number l.left) (wide_number c.divided-rest.result.0) c.divided-rest.result.1 (wide_number c.args.self) more (omega arith) divided.whole divided.rest l.invariant c.put_digits.ensures

-- at the end all digits are there
pub returns : goal.returns
returns c =
    let l = c.loop-turn in
    let end : l.turn ≡ 5 = omega arith in
    let number = wide_number c.args.self in
    let left = wide_number l.left in
    let standing_text = subst (λ (turn : ℕ). last_digits 0 left ++ drop (95 - 19 * turn) l.digits ≡ last_digits (0 + 19 * turn) number) end (l.invariant 0) in
    all_written left l.digits (last_digits 95 number) standing_text
