use Rattle.std.proofs.Common.{length, ap, sym, ◌∙◌}
use Rattle.arrow_data.specs.Column.{values_from}
use Rattle.arrow_body_laws.specs.Raws.{items_in_value, last_item}
use Rattle.arrow_body_slots.proofs.Spanning.{reach_range}
use Rattle.arrow_body_slots.proofs.tally.list_reach.Goals as goal

-- the offsets are there
pub len-requires : goal.len-requires
len-requires c = c.in_ok-spans-in-Offsets.ensures.spans.there

-- they give the total length of the slots
pub returns-in_ok-spans-in-Offsets : goal.returns-in_ok-spans-in-Offsets
returns-in_ok-spans-in-Offsets c =
    let raw = c.args.slice.array.now.raw in
    let are = c.in_ok-spans-in-Offsets.ensures in
    reach_range c.in_ok-spans-in-Offsets.spans (λ v. length (items_in_value 0 v)) raw c.args.slice.start c.args.slice.stop c.len.result are (c.len.ensures (λ v. length (items_in_value 0 v)) raw are.spans)
    ∙ ap (λ list. last_item list (values_from raw c.args.slice.start c.args.slice.stop)) (sym c.in-Offsets.is)
