use Rattle.arrowflow_session.specs.Report.{items_of}
use Rattle.arrowflow_session.specs.Running.{SoFar, IsOver, shown_kept}
use Rattle.arrowflow_session.proofs.sending.write_all.Given as goal

-- the first batches were tried, with the limits, options and fields of the start
abbrev pub invariant-loop-number : goal.invariant-loop-number
invariant-loop-number l =
    SoFar (shown_kept l.writer) l.batches l.number (items_of l.parts.items) l.refused.items
    × IsOver (shown_kept l.initial.writer) (shown_kept l.writer)
