use Rattle.std.proofs.Common.{◌≤◌, ◌-◌, length}
use Rattle.arrow_data.specs.Column.{values_from}
use Rattle.arrow_body_writer.specs.Sent.{sent_along}
use Rattle.arrow_body_writer.proofs.source.take_rest.Given as goal

-- what the values so far send is taken
abbrev pub invariant-loop-i : goal.invariant-loop-i
invariant-loop-i g l = (l.from ≤ l.i) × g.V.SlotVisitor.takes l.fn.visitor l.visitor (sent_along l.steps (values_from l.dictionary.values l.from l.i))

abbrev pub decreases-loop-i : goal.decreases-loop-i
decreases-loop-i g l = length l.dictionary.values - l.i
