use Rattle.std.proofs.Common.{◌≡◌, rules, arith, [], map, take, Some, option_map, unwrap_or, ap, ◌∙◌}
use Rattle.std.proofs.lemmas.List.{take_all}
use Rattle.clap.specs.Words.{found_of, matched_of, raw_values}
use Rattle.arrowflow_line.proofs.Asked.{names_found}
use Rattle.arrowflow_line.proofs.reading.names_of.Goals as goal

pub returns : goal.returns
returns c =
    let given = c.in-Some.given.now in
    let whole : take c.loop-name.name-index given ≡ given = take_all c.loop-name.name-index given (omega (arith, c.loop-name-test.false)) in
    let found : Some (map (λ w. w.now) given) ≡ option_map raw_values (matched_of (found_of c.args.matches.now) c.args.argument.now) = search rules in
    c.loop-name.invariant ∙ ap (map (λ w. w.now)) whole ∙ ap (λ o. unwrap_or o []) found ∙ names_found (found_of c.args.matches.now) c.args.argument.now
