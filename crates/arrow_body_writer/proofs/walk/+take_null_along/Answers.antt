use Rattle.std.proofs.Common.{sym, subst}
use Rattle.arrow_body_writer.proofs.Runs.{takes_nulls}
use Rattle.arrow_body_writer.proofs.Sending.{along_none}
use Rattle.arrow_body_writer.proofs.walk.+take_null_along.Goals as goal

-- no null so far
pub take_nulls_along-loop-init : goal.take_nulls_along-loop-init
take_nulls_along-loop-init g t c = subst (g.V.SlotVisitor.takes c.args.visitor.now c.args.visitor.now) (sym (along_none c.args.rest.now)) (g.met.V.SlotVisitor.nothing c.args.visitor.now)

-- one more null
pub take_nulls_along-loop-preserved : goal.take_nulls_along-loop-preserved
take_nulls_along-loop-preserved g t c = takes_nulls g.V.SlotVisitor.takes g.met.V.SlotVisitor.nothing g.met.V.SlotVisitor.more c.args.rest.now c.args.visitor.now c.loop.visitor c.take_null_along.new.visitor c.loop.counter c.loop.invariant c.in_ok-take_null_along.ensures
