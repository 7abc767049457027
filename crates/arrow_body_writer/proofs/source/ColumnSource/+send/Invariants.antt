use Rattle.arrow_body_writer.proofs.Sources.{count_above}
use Rattle.arrow_body_writer.proofs.source.ColumnSource.+send.Given as goal

-- each call goes one column up
abbrev pub decreases-send : goal.decreases-send
decreases-send g l = count_above l.self.now
