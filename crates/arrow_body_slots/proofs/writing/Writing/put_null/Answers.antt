use Rattle.std.proofs.lemmas.Result.{on_ok_weaker}
use Rattle.arrow_body_slots.proofs.OneMore.{null_step}
use Rattle.arrow_body_slots.proofs.writing.Writing.put_null.Goals as goal

-- the offset stays
pub returns-in-StringOffsets : goal.returns-in-StringOffsets
returns-in-StringOffsets c = on_ok_weaker c.put_end.result (null_step c.args.part c.in-StringOffsets.width c.args.self.now c.put_end.new.self c.in-StringOffsets.is) c.put_end.ensures
