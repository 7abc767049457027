use Rattle.std.proofs.Common.{◌≡◌, take}
use Rattle.arrowflow_session.specs.Report.{Reports}
use Rattle.arrowflow_session.proofs.session.run.Given as goal

-- the reader keeps the limits, and there is a report of each connection so far
abbrev pub invariant-loop-connection : goal.invariant-loop-connection
invariant-loop-connection l =
    (l.reader.limits ≡ l.limits) × Reports l.limits (take l.connection-index l.connections) l.reports.items
