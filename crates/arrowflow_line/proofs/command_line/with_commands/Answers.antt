use Rattle.std.proofs.Common.{ap, ◌∙◌, refl, rules}
use Rattle.clap.specs.Words.{app_of}
use Rattle.arrowflow_line.specs.CommandLine.{HasNoGlobals, app_by, with_command, with_rows}
use Rattle.arrowflow_line.proofs.Steps.{fold_mapped}
use Rattle.arrowflow_line.proofs.command_line.with_commands.Goals as goal

pub loop-row-init : goal.loop-row-init
unfolding with_rows
loop-row-init c = (c.requires, refl)

pub loop-row-preserved : goal.loop-row-preserved
unfolding with_rows
loop-row-preserved c =
    let no_globals : HasNoGlobals c.in_ok-top.top = search rules in (
      no_globals,
      fold_mapped (app_of c.args.top) (app_of c.loop-row.top) (app_of c.in_ok-top.top) c.args.rows.now c.loop-row.row-index _ c.loop-row-test.true with_command app_by c.loop-row.invariant.1
          (c.in_ok-top.ensures.shape c.in_ok-command_of.ensures.globals ∙ ap (with_command (app_of c.loop-row.top)) c.in_ok-command_of.ensures.app),
    )
