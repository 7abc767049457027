use Rattle.std.proofs.Common.{ap, length, subst}
use Rattle.std.proofs.lemmas.Result.{on_ok_weaker}
use Rattle.arrow_layout.specs.PlainValue.{value_at}
use Rattle.arrow_body_slots.specs.Part.{HasNextOffset}
use Rattle.arrow_body_slots.proofs.OneMore.{lists_step, strings_step}
use Rattle.arrow_body_slots.proofs.writing.Writing.put.Goals as goal

-- the offset after a byte string or a text
pub returns-in-StringOffsets : goal.returns-in-StringOffsets
returns-in-StringOffsets c =
    on_ok_weaker c.put_end.result
    (λ next. strings_step c.args.part c.in-StringOffsets.width c.args.self.now c.put_end.new.self (value_at c.args.array.now.raw c.args.i) c.in-StringOffsets.is
    (subst (λ n. HasNextOffset c.in-StringOffsets.width n c.args.self.now c.put_end.new.self) (ap length c.string.ensures) next))
    c.put_end.ensures

-- the offset after a list
pub returns-in-ListOffsets : goal.returns-in-ListOffsets
returns-in-ListOffsets c =
    on_ok_weaker c.put_end-in-ListOffsets.result
    (λ next. lists_step c.args.part c.in-ListOffsets.width c.args.self.now c.put_end-in-ListOffsets.new.self (value_at c.args.array.now.raw c.args.i) c.in-ListOffsets.is
    (subst (λ n. HasNextOffset c.in-ListOffsets.width n c.args.self.now c.put_end-in-ListOffsets.new.self) c.span.ensures next))
    c.put_end-in-ListOffsets.ensures
