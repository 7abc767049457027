use Rattle.arrow_body_slots.proofs.Counting.{counted_all}
use Rattle.arrow_body_writer.specs.Source.{column_in}
use Rattle.arrow_body_writer.proofs.counts.count_sent.Goals as goal

-- all slots were taken
pub returns : goal.returns
returns c = counted_all c.args.form c.new.result c.send.new.visitor.tally (column_in c.args.source.now).raw c.new.ensures c.in-Ok.ensures.1
