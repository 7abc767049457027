use Rattle.std.proofs.Common.{◌≡◌, map, take, fold}
use Rattle.clap.specs.Words.{app_of, with_rule}
use Rattle.arrowflow_line.specs.CommandLine.{HasNoGlobals, rule_by}
use Rattle.arrowflow_line.proofs.command_line.with_arguments.Given as goal

-- the arguments before this index are the command's
abbrev pub invariant-loop-argument : goal.invariant-loop-argument
invariant-loop-argument l = HasNoGlobals l.command × (app_of l.command ≡ fold with_rule (app_of l.initial.command) (map rule_by (take l.argument-index l.arguments)))
