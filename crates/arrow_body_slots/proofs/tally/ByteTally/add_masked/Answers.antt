use Rattle.std.proofs.Common.{arith}
use Rattle.arrow_data.specs.Column.{values_from}
use Rattle.arrow_data.proofs.Sameness.{length-values_from}
use Rattle.arrow_body_slots.proofs.Marking.{marked_counted, nulls_are}
use Rattle.arrow_body_slots.proofs.tally.ByteTally.add_masked.Goals as goal

-- they are counted by their bits
pub returns-clause-counted : goal.returns-clause-counted
returns-clause-counted c done raw marked inside =
    let bits = c.args.bits in
    let vs = values_from raw bits.start bits.stop in
    marked_counted c.args.form vs c.args.self.now c.add_marked.new.self
    (omega (arith, c.add_marked.ensures.slots, length-values_from raw bits.start bits.stop inside))
    (omega (arith, c.add_marked.ensures.nulls, nulls_are raw bits.bytes.now bits.start bits.stop marked c.requires.order inside))
    (omega (arith, c.add_marked.ensures.end, c.has_offsets.ensures c.if-has_offsets.false vs))
