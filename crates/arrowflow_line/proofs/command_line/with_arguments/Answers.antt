use Rattle.std.proofs.Common.{ap, ◌∙◌, rules}
use Rattle.clap.specs.Words.{app_of, with_rule}
use Rattle.arrowflow_line.specs.CommandLine.{HasNoGlobals, rule_by}
use Rattle.arrowflow_line.proofs.Steps.{fold_mapped}
use Rattle.arrowflow_line.proofs.command_line.with_arguments.Goals as goal

pub loop-argument-preserved : goal.loop-argument-preserved
loop-argument-preserved c =
    let no_globals : HasNoGlobals c.in_ok-command.command = search rules in (
      no_globals,
      fold_mapped (app_of c.args.command) (app_of c.loop-argument.command) (app_of c.in_ok-command.command) c.args.arguments.now c.loop-argument.argument-index _ c.loop-argument-test.true with_rule rule_by c.loop-argument.invariant.1
          (c.in_ok-command.ensures.shape c.arg.ensures.local ∙ ap (with_rule (app_of c.loop-argument.command)) c.arg.ensures.rule),
    )
