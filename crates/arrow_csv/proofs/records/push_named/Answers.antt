use Rattle.std.proofs.Common.{◌≡◌, ◌+◌, ◌++◌, drop, map, sym, ap, ◌∙◌, append_assoc}
use Rattle.csv.specs.Records.{fields_of}
use Rattle.arrow_types.specs.Field.{none}
use Rattle.arrow_types.specs.View.{fields_view}
use Rattle.arrow_csv.specs.Named.{fields_named, with_field}
use Rattle.arrow_csv.specs.Records.{names}
use Rattle.arrow_csv.proofs.Naming.{names_next}
use Rattle.arrow_csv.proofs.records.push_named.Goals as goal

-- one more name was appended, if a field has it
pub loop-name-preserved : goal.loop-name-preserved
loop-name-preserved c =
    let ns = c.args.wanted.now in
    let i = c.loop-name.name-index in
    let fields = fields_view c.args.fields.now in
    let old = fields_of c.loop-name.line in
    let own = names (with_field c.place_of.result fields none) in
    let later = names (fields_named (map (λ name. name.now) (drop (i + 1) ns)) fields) in
    let next : names (fields_named (map (λ name. name.now) (drop i ns)) fields) ≡ own ++ later =
    names_next ns fields i _ c.loop-name-test.true ∙ ap (λ p. names (with_field p fields none) ++ later) (sym c.place_of.ensures.place) in
    (ap (λ t. t ++ later) c.in_ok-push_name.ensures.name ∙ append_assoc old own later ∙ ap (λ t. old ++ t) (sym next) ∙ c.loop-name.invariant.0, c.in_ok-push_name.ensures.whole)
