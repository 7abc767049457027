use Rattle.arrow_body_slots.proofs.Counting.{counted_all}
use Rattle.arrow_body_slots.specs.Slice.{values_in}
use Rattle.arrow_body_slots.proofs.tally.counted.Goals as goal

-- nothing was counted before
pub returns : goal.returns
returns c = counted_all c.args.form c.new-tally.result c.add_slots.new.self (values_in c.args.slice) c.new-tally.ensures c.add_slots.ensures
