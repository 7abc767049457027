use Rattle.std.proofs.Common.{refl, subst, ◌++◌, ◌∷◌, []}
use Rattle.arrowflow_input.specs.Bounds.{Pass}
use Rattle.arrowflow_input.specs.Consumer.{entry_of}
use Rattle.arrowflow_input.specs.Counted.{AreCounted}
use Rattle.arrowflow_input.proofs.Cutting.{cut_before, ends_here, own_counts, took_counted}
use Rattle.arrowflow_input.proofs.counting.CountingConsumer.item.Goals as goal

pub returns-in-Ok-clause-takes : goal.returns-in-Ok-clause-takes
returns-in-Ok-clause-takes g c began old t es piece n comes x =
    let own = c.args.self in
    let new = c.args.reader.now in
    let keeps = g.C.Consumer.keeps began.start c.item-consumer.result.0 in
    let answers = g.C.Consumer.answers began.start c.item-consumer.result.0 in
    let here = ends_here keeps answers began.whole own.excess x.none c.args.place c.args.item old new t es piece n comes in
    let counted = c.in-Ok.ensures es (own_counts began.whole own.counts es x.counted) (entry_of c.args.item t n) refl here in
    took_counted keeps answers began.whole own.excess x.none c.args.place c.args.item old new t es piece n comes c.in-Ok.counts (subst (λ w. AreCounted w c.in-Ok.counts (es ++ entry_of c.args.item t n ∷ [])) x.counted.whole_is counted) c.item-consumer.result.1 c.item-consumer.ensures.blameless
    (c.item-consumer.ensures.takes began.start old t es piece n comes x.kept)

pub returns-in-Err-clause-takes : goal.returns-in-Err-clause-takes
returns-in-Err-clause-takes g c began old t es piece n comes x left =
    let own = c.args.self in
    let new = c.args.reader.now in
    let keeps = g.C.Consumer.keeps began.start own.consumer in
    let answers = g.C.Consumer.answers began.start own.consumer in
    let passed = c.in-Err.passed in
    let here = ends_here keeps answers began.whole own.excess x.none c.args.place c.args.item old new t es piece n comes in
    let out = c.in-Err.ensures es (own_counts began.whole own.counts es x.counted) (entry_of c.args.item t n) refl here in
    cut_before keeps answers began.whole own.excess x.none c.args.place c.args.item old new t es piece n comes own.counts x.counted x.kept passed out.0 (subst (λ w. Pass w passed.measure passed.limit (es ++ entry_of c.args.item t n ∷ [])) x.counted.whole_is out.1) left
