use Rattle.std.proofs.Common.{◌≡◌, ◌*◌, ◌++◌, take, ap, sym, ◌∙◌, arith}
use Rattle.std.proofs.lemmas.List.{take_all}
use Rattle.arrow_body_slots.proofs.Moving.{moved_none}
use Rattle.arrow_body_slots.specs.Spans.{moved}
use Rattle.arrow_body_slots.proofs.spans.put_small.Goals as goal

-- they are unchanged
pub returns-else-by-ne0 : goal.returns-else-by-ne0
returns-else-by-ne0 c = λ n long.
    let numbers = c.args.numbers.now in
    let none : c.args.by ≡ 0 = c.if-by-ne0.false in
    let all : take (4 * n) numbers ≡ numbers = take_all (4 * n) numbers (omega (arith, long)) in
    c.in_ok-extend_from_slice.ensures.items
    ∙ ap (λ bytes. c.args.out.now.items ++ bytes) (sym (ap (λ by. moved 4 by n numbers) none ∙ moved_none 4 n numbers (λ k. (c.type_inv.numbers k).fits) (omega (arith, long)) ∙ all))
