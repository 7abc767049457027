use Rattle.std.proofs.Common.{rules}
use Rattle.arrow_sink.proofs.counted.Counted.ask.Goals as goal

pub returns-in-Ok-clause-reported : goal.returns-in-Ok-clause-reported
returns-in-Ok-clause-reported g c = (c.call.result, search rules, search rules)

pub returns-in-Err-clause-reported : goal.returns-in-Err-clause-reported
returns-in-Err-clause-reported g c = (c.call.result, search rules, search rules)
