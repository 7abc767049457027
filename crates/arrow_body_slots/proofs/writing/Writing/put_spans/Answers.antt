use Rattle.arrow_body_slots.proofs.Spanning.{spans_added}
use Rattle.arrow_body_slots.proofs.writing.Writing.put_spans.Goals as goal

-- they are added
pub returns : goal.returns
returns c = λ long raw are.
    spans_added c.args.spans long raw c.args.self.now (record c.args.self.now { out = c.put.new.out; end = c.next_end-self.result }) c.len.result are c.in_ok-put.ensures (c.len.ensures long raw are) c.next_end-self.ensures.same
