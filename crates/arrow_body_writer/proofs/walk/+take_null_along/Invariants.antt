use Rattle.std.proofs.Common.{replicate}
use Rattle.arrow_layout.specs.PlainValue.{null_value}
use Rattle.arrow_body_writer.specs.Sent.{sent_along}
use Rattle.arrow_body_writer.proofs.walk.+take_null_along.Given as goal

-- what the nulls so far send is taken
abbrev pub invariant-take_nulls_along-loop : goal.invariant-take_nulls_along-loop
invariant-take_nulls_along-loop g l = g.V.SlotVisitor.takes l.fn.visitor l.visitor (sent_along l.rest (replicate l.counter null_value))
