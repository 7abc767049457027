use Rattle.std.proofs.Common.{◌+◌, ◌-◌, sym, subst, arith}
use Rattle.std.specs.List.{AllByRecursion}
use Rattle.arrow_data.specs.Column.{values_from}
use Rattle.arrow_body_writer.proofs.Runs.{all_kept, takes_part, takes_start}
use Rattle.arrow_body_writer.proofs.Sending.{along_more}
use Rattle.arrow_body_writer.proofs.Sources.{all_of_range, rest_all, run_inside, run_sent}
use Rattle.arrow_body_writer.specs.Sent.{LeadDown, sent_along}
use Rattle.arrow_body_writer.proofs.source.take_rest.Goals as goal

-- nothing is taken yet
pub loop-i-init : goal.loop-i-init
loop-i-init g c = (omega arith, takes_start g.V.SlotVisitor.takes g.met.V.SlotVisitor.nothing g.met.V.SlotVisitor.more (sent_along c.args.steps.now) c.args.visitor.now c.args.dictionary.now.values c.args.from (along_more c.args.steps.now))

-- an array has the type of the dictionary
pub take_along-requires-clause-down : goal.take_along-requires-clause-down
take_along-requires-clause-down g c =
    let typed = c.value-start.ensures in
    subst (λ t. LeadDown c.args.steps.now t c.value-start.result.0.now.encoding) (sym typed.typed) (subst (LeadDown c.args.steps.now c.args.dictionary.now.data_type) (sym typed.plain) c.requires.down)

-- each number has room
pub take_along-requires-clause-room : goal.take_along-requires-clause-room
take_along-requires-clause-room g c =
    let d = c.args.dictionary.now in
    let a = c.value-start.result.0.now in
    let place = c.value-start.result.1 in
    let end = c.len-stop.result in
    let i = c.loop-i.i in
    let steps = c.args.steps.now in
    let Place = g.V.SlotVisitor.has_room c.args.visitor.now in
    let range = all_of_range Place steps d.values c.args.from i (i + (end - place)) c.loop-i.invariant.0 (omega arith) c.requires.room in
    all_kept Place (g.V.SlotVisitor.has_room c.loop-i.visitor) (sent_along steps (values_from a.raw place end)) (λ v. g.met.V.SlotVisitor.keeps c.args.visitor.now c.loop-i.visitor (sent_along steps (values_from d.values c.args.from i)) v c.loop-i.invariant.1)
    (subst (AllByRecursion Place) (sym (run_sent steps d i a place end c.value-start.ensures c.len-stop.ensures.count)) range)

-- there is an index after the array's values
pub overflow_add-i : goal.overflow_add-i
overflow_add-i g c =
    omega (arith, run_inside c.args.dictionary.now c.loop-i.i c.value-start.result.0.now c.value-start.result.1 c.value-start.ensures, c.len-stop.ensures.count, c.len.ensures, c.loop-i-test.true)

-- the array's values are taken
pub loop-i-preserved : goal.loop-i-preserved
loop-i-preserved g c =
    let d = c.args.dictionary.now in
    let a = c.value-start.result.0.now in
    let place = c.value-start.result.1 in
    let end = c.len-stop.result in
    let i = c.loop-i.i in
    let steps = c.args.steps.now in
    let taken = c.in_ok-take_along.ensures in (
      omega (arith, c.loop-i.invariant.0),
      takes_part g.V.SlotVisitor.takes g.met.V.SlotVisitor.nothing g.met.V.SlotVisitor.more (sent_along steps) c.args.visitor.now c.loop-i.visitor c.take_along.new.visitor d.values c.args.from i (i + (end - place)) (along_more steps) c.loop-i.invariant.0 (omega arith) c.loop-i.invariant.1
          (subst (g.V.SlotVisitor.takes c.loop-i.visitor c.take_along.new.visitor) (run_sent steps d i a place end c.value-start.ensures c.len-stop.ensures.count) taken),
    )

-- all values
pub returns : goal.returns
returns g c = rest_all (g.V.SlotVisitor.takes c.args.visitor.now c.loop-i.visitor) c.args.steps.now c.args.dictionary.now.values c.args.from c.loop-i.i (omega (arith, c.loop-i-test.false, c.len.ensures)) c.loop-i.invariant.1
