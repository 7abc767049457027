use Rattle.std.proofs.lemmas.Option.{IfSome_then}
use Rattle.arrow_body_laws.specs.Raws.{items_in_value}
use Rattle.arrow_body_slots.proofs.Spanning.{spans_are}
use Rattle.arrow_body_slots.proofs.offsets.lists_between.Goals as goal

-- they are the offsets of the lists
pub returns : goal.returns
returns c =
    let held = c.in_ok-offsets.ensures in
    IfSome_then c.between.result c.between.ensures
    (λ spans are. spans_are c.in_ok-offsets.offsets held.0 (items_in_value 0) c.args.slice.array.now.raw c.args.slice.start c.args.slice.stop spans held.1 are c.requires.inside)
