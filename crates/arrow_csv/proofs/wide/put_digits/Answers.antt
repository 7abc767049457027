use Rattle.std.proofs.Common.{◌≡◌, ◌+◌, ◌-◌, ◌++◌, ℕ, drop, subst, arith}
use Rattle.arrow_csv.specs.Wide.{last_digits}
use Rattle.arrow_csv.proofs.LastDigits.{all_written, put_next}
use Rattle.arrow_csv.proofs.wide.put_digits.Goals as goal

-- one more digit is there
pub loop-k-preserved : goal.loop-k-preserved
loop-k-preserved c more =
    let l = c.loop-k in
    put_next l.digits (drop (c.args.place + 19) c.args.digits.now) c.args.place l.k l.left c.args.number more (omega arith) (omega arith) l.invariant

-- at the end all digits are there
pub returns : goal.returns
returns c =
    let l = c.loop-k in
    let place = c.args.place in
    let rest = drop (place + 19) c.args.digits.now in
    let turns : l.k ≡ 19 = omega arith in
    let at : place + 19 - 19 ≡ place = omega arith in
    let standing_text = subst (λ (k : ℕ). last_digits 0 l.left ++ drop (place + 19 - k) l.digits ≡ last_digits (0 + k) c.args.number ++ rest) turns (l.invariant 0) in
    all_written l.left (drop place l.digits) (last_digits 19 c.args.number ++ rest) (subst (λ (n : ℕ). last_digits 0 l.left ++ drop n l.digits ≡ last_digits 19 c.args.number ++ rest) at standing_text)
