use Rattle.arrowflow_input.proofs.bounds.ExcessDisplay.fmt.Goals as goal

pub returns-in-Rows-clause-writes : goal.returns-in-Rows-clause-writes
returns-in-Rows-clause-writes g c = rw c.in-Rows.is c.write.ensures.writes

pub returns-in-Messages-clause-writes : goal.returns-in-Messages-clause-writes
returns-in-Messages-clause-writes g c = rw c.in-Messages.is c.write-in-Messages.ensures.writes

pub returns-in-Bytes-clause-writes : goal.returns-in-Bytes-clause-writes
returns-in-Bytes-clause-writes g c = rw c.in-Bytes.is c.write-in-Bytes.ensures.writes
