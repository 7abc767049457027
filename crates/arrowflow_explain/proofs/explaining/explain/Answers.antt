use Rattle.std.proofs.Common.{[]}
use Rattle.std.proofs.KnownBytes.{Consumes-nil}
use Rattle.arrowflow_input.specs.Endings.{IsOpenAt}
use Rattle.arrowflow_input.proofs.Reading.{read_all}
use Rattle.arrowflow_explain.proofs.Keeping.{fresh_kept, fresh_open}
use Rattle.arrowflow_explain.proofs.explaining.explain.Goals as goal

pub returns-in_default-clause-explains : goal.returns-in_default-clause-explains
returns-in_default-clause-explains g c = ([], Consumes-nil (g.R.Input.remaining c.args.input.now), read_all (IsOpenAt c.args.limits.now) [] (fresh_open c.args.limits.now), tt)

pub explain_pieces-requires-clause-kept : goal.explain_pieces-requires-clause-kept
explain_pieces-requires-clause-kept g c = fresh_kept c.args.limits.now c.new.result c.new-2.result.items c.new.ensures.fresh c.new.ensures.start c.new-2.ensures.items
