use Rattle.std.proofs.Common.{arith}
use Rattle.arrow_data.specs.Column.{values_from}
use Rattle.arrow_data.proofs.Sameness.{length-values_from}
use Rattle.arrow_body_slots.proofs.Marking.{marked_counted, nulls_are}
use Rattle.arrow_body_slots.proofs.tally.ByteTally.add_beside.Goals as goal

-- they are counted by their bits
pub returns-in-Some : goal.returns-in-Some
returns-in-Some c =
    let raw = c.args.slice.array.now.raw in
    marked_counted c.args.form (values_from raw c.args.slice.start c.args.slice.stop) c.args.self.now c.add_marked.new.self
    (omega (arith, c.add_marked.ensures.slots, length-values_from raw c.args.slice.start c.args.slice.stop c.requires.slots.inside))
    (omega (arith, c.add_marked.ensures.nulls, nulls_are raw c.args.bytes.now c.args.slice.start c.args.slice.stop c.requires.bits c.requires.slots.order c.requires.slots.inside))
    (omega (arith, c.add_marked.ensures.end, c.in-Some.ensures))
