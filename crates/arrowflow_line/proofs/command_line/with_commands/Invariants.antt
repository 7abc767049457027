use Rattle.std.proofs.Common.{◌≡◌, take}
use Rattle.clap.specs.Words.{app_of}
use Rattle.arrowflow_line.specs.CommandLine.{HasNoGlobals, with_rows}
use Rattle.arrowflow_line.proofs.command_line.with_commands.Given as goal

-- the commands of the rows before this index are subcommands
abbrev pub invariant-loop-row : goal.invariant-loop-row
invariant-loop-row l = HasNoGlobals l.top × (app_of l.top ≡ with_rows (app_of l.initial.top) (take l.row-index l.rows))
