use Rattle.std.proofs.Common.{map, fold}
use Rattle.clap.specs.Words.{app_of, with_rule, new_app}
use Rattle.arrowflow_line.specs.CommandLine.{rule_by}
use Rattle.arrowflow_line.proofs.Steps.{fold_more}
use Rattle.arrowflow_line.proofs.command_line.command_of.Goals as goal

pub loop-group-preserved : goal.loop-group-preserved
loop-group-preserved c = (
  c.in_ok-command.ensures.globals,
  fold_more (new_app c.args.row.now.name.now) (app_of c.loop-group.command) (app_of c.in_ok-command.command) c.args.row.now.groups.now c.loop-group.group-index _ c.loop-group-test.true
      (λ app group. fold with_rule app (map rule_by group.now)) c.loop-group.invariant.1 c.in_ok-command.ensures.app,
)
