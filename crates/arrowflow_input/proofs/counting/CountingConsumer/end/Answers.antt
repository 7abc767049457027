use Rattle.arrowflow_input.proofs.Cutting.{end_counted}
use Rattle.arrowflow_input.proofs.counting.CountingConsumer.end.Goals as goal

pub returns-clause-ends : goal.returns-clause-ends
returns-clause-ends g c began bytes left es ended x =
    let own = c.args.self in
    end_counted (g.C.Consumer.keeps began.start c.end-consumer.result.0) (g.C.Consumer.answers began.start c.end-consumer.result.0) began.whole own.excess own.counts c.args.reader.now bytes left es c.end-consumer.result.1 x.none x.counted ended.position
    (c.end-consumer.ensures.ends began.start bytes left es ended x.kept) c.end-consumer.ensures.blameless
