use Rattle.std.proofs.Common.{length, ap, sym, ◌∙◌}
use Rattle.std.proofs.lemmas.List.Concat.{length-flat_map}
use Rattle.arrow_data.specs.Column.{values_from}
use Rattle.arrow_data.proofs.Sameness.{length-values_from}
use Rattle.arrow_body_laws.specs.Raws.{items_in_value, last_item}
use Rattle.arrow_body_slots.proofs.tally.list_stretch.Goals as goal

-- the items of lists
pub returns-in-Some : goal.returns-in-Some
returns-in-Some c =
    let vs = values_from c.args.slice.array.now.raw c.args.slice.start c.args.slice.stop in
    let run = c.in-Some.ensures in
    sym (length-values_from c.in-Some.items.array.now.raw c.in-Some.items.start c.in-Some.items.stop run.inside) ∙ ap length (sym (run.same 0))
    ∙ length-flat_map (items_in_value 0) vs ∙ ap (λ list. last_item list vs) (sym c.in-Offsets.is)

pub returns-in-None : goal.returns-in-None
returns-in-None c =
    let vs = values_from c.args.slice.array.now.raw c.args.slice.start c.args.slice.stop in
    ap length (sym c.in-None.ensures.none) ∙ length-flat_map (items_in_value 0) vs ∙ ap (λ list. last_item list vs) (sym c.in-Offsets.is)
