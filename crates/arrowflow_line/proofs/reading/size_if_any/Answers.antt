use Rattle.std.proofs.Common.{sym, ap, ◌∙◌}
use Rattle.std.specs.Option.{is_some}
use Rattle.clap.specs.Words.{found_of, rows_of}
use Rattle.clap.proofs.WalkLemmas.{first_value-rows}
use Rattle.arrowflow_line.specs.CommandLine.{name_if_any}
use Rattle.arrowflow_line.proofs.reading.size_if_any.Goals as goal

-- the text that was found is the option's
pub returns-in-Ok : goal.returns-in-Ok
returns-in-Ok c =
    let found = c.in-Some.ensures ∙ first_value-rows (found_of c.args.matches.now) c.name.result.now ∙ ap (λ n. name_if_any n (rows_of (found_of c.args.matches.now))) c.name.ensures in
    (sym (ap is_some found), c.in-Ok.ensures)

-- and it has no size within the bounds
pub returns-in-Err : goal.returns-in-Err
returns-in-Err c =
    let found = c.in-Some.ensures ∙ first_value-rows (found_of c.args.matches.now) c.name.result.now ∙ ap (λ n. name_if_any n (rows_of (found_of c.args.matches.now))) c.name.ensures in
    (sym (ap is_some found), c.in-Err.ensures)

-- no text was found
pub returns-in-None : goal.returns-in-None
returns-in-None c =
    sym (c.in-None.ensures ∙ first_value-rows (found_of c.args.matches.now) c.name.result.now ∙ ap (λ n. name_if_any n (rows_of (found_of c.args.matches.now))) c.name.ensures)
