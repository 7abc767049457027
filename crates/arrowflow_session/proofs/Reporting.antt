-- One more report.
use Rattle.std.proofs.Common.{List, [], ◌∷◌, ◌++◌}
use Rattle.arrow_types.specs.Limits.{LimitNumbers}
use Rattle.arrowflow_session.specs.declared.connection.Connection.{Connection}
use Rattle.arrowflow_session.specs.declared.session.Report.{Report}
use Rattle.arrowflow_session.specs.Asked.{asked_of}
use Rattle.arrowflow_session.specs.Report.{IsReport, Reports, reported_by}

-- a connection and its report after others
pub one_more : (l : LimitNumbers) (cs : List Connection) (rs : List Report) (c : Connection) (r : Report) → Reports l cs rs → IsReport l (asked_of c) (reported_by r) → Reports l (cs ++ c ∷ []) (rs ++ r ∷ [])
one_more l [] [] c r h k = (k, tt)
one_more l [] (y ∷ ys) c r h k = absurd h
one_more l (x ∷ xs) [] c r h k = absurd h
one_more l (x ∷ xs) (y ∷ ys) c r h k = (h.0, one_more l xs ys c r h.1 k)
