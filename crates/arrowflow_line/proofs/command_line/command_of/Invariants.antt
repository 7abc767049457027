use Rattle.std.proofs.Common.{◌≡◌, map, take, fold}
use Rattle.clap.specs.Words.{app_of, with_rule, new_app}
use Rattle.arrowflow_line.specs.CommandLine.{HasNoGlobals, rule_by}
use Rattle.arrowflow_line.proofs.command_line.command_of.Given as goal

-- the groups before this index are the command's
abbrev pub invariant-loop-group : goal.invariant-loop-group
invariant-loop-group l = HasNoGlobals l.command × (app_of l.command ≡ fold (λ app group. fold with_rule app (map rule_by group.now)) (new_app l.row.name.now) (take l.group-index l.row.groups.now))
