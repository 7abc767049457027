use Rattle.std.proofs.Common.{◌≡◌, refl, ap, ◌∙◌, subst}
use Rattle.clap.specs.Words.{found_of, rows_of}
use Rattle.arrowflow_line.specs.CommandLine.{least_size, most_size, name_in, size_name}
use Rattle.arrowflow_line.specs.Sizes.{LacksSize}
use Rattle.arrowflow_line.proofs.reading.size_of.Goals as goal

-- the text that has no size within the bounds is the option's
pub returns-in-None : goal.returns-in-None
returns-in-None c =
    let option = c.args.option in
    let given = c.text_of-text.result.now in
    let text : given ≡ name_in (size_name option) (rows_of (found_of c.args.matches.now)) = c.text_of-text.ensures ∙ ap (λ n. name_in n (rows_of (found_of c.args.matches.now))) c.name.ensures in
    let least = subst (λ l. LacksSize l c.most.result given) c.least.ensures c.in-None.ensures in
    let both = subst (λ m. LacksSize (least_size option) m given) c.most.ensures least in
    (refl, subst (LacksSize (least_size option) (most_size option)) text both)
