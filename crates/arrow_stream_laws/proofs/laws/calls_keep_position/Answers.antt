use Rattle.arrow_stream_laws.proofs.Writers.{starts_of, accepts_of, fails_of, ends_of, fails_at_end}
use Rattle.arrow_stream_laws.proofs.laws.calls_keep_position.Goals as goal

pub returns : goal.returns
returns c = record { schema = starts_of; part = accepts_of; broken = fails_of; marker = ends_of; broken_at_end = fails_at_end }
