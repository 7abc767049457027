use Rattle.std.proofs.Common.{Some, option_map, ap, ◌∙◌}
use Rattle.clap.specs.Words.{found_of}
use Rattle.clap.proofs.WalkLemmas.{first_value-rows}
use Rattle.arrowflow_line.specs.CommandLine.{names_by}
use Rattle.arrowflow_line.proofs.reading.names_if_any.Goals as goal

-- the names are those in the text that was found
pub returns-in_ok-parts_of-in-Some : goal.returns-in_ok-parts_of-in-Some
returns-in_ok-parts_of-in-Some c =
    ap Some c.in_ok-parts_of-in-Some.ensures ∙ ap (option_map names_by) (c.in-Some.ensures ∙ first_value-rows (found_of c.args.matches.now) c.args.argument.now)

-- no text was found
pub returns-in-None : goal.returns-in-None
returns-in-None c = ap (option_map names_by) (c.in-None.ensures ∙ first_value-rows (found_of c.args.matches.now) c.args.argument.now)
