use Rattle.std.proofs.Common.{◌≤◌, ◌+◌, ◌-◌, length, arith, rules, refl, IsTrue}
use Rattle.arrow_data.proofs.Runs.{begins_by, equal_so_far, runs_equal}
use Rattle.arrow_data.proofs.array.Dictionary.begins.Goals as goal

pub returns-then-not-same_items : goal.returns-then-not-same_items
returns-then-not-same_items c =
    let values = c.value-place.result.0.now in
    let others = c.value-from.result.0.now in
    let place = c.value-place.result.1 in
    let from = c.value-from.result.1 in
    let room : place + c.min-count.result ≤ length values.raw = search rules in
    let other_room : from + c.min-count.result ≤ length others.raw = search rules in (
      λ t. absurd (cc),
      λ b.
          let yes : IsTrue c.same_items.result = c.same_items.ensures.1 (runs_equal c.args.self.now.values c.args.other.now.values values others c.loop-i.i place from c.min-count.result room other_room c.value-place.ensures.follow c.value-from.ensures.follow b) in
          absurd (cc),
    )

pub overflow_add-i : goal.overflow_add-i
overflow_add-i c =
    let values = c.value-place.result.0.now in
    let room : c.value-place.result.1 + c.min-count.result ≤ length values.raw = search rules in
    let last = c.value-place.ensures.follow (c.min-count.result - 1) (omega (arith, room, c.value-place.ensures.inside)) in
    omega (arith, last.0, c.len-in-loop-i.ensures, c.loop-i-test.true)

pub loop-i-preserved : goal.loop-i-preserved
loop-i-preserved c =
    let values = c.value-place.result.0.now in
    let others = c.value-from.result.0.now in
    let place = c.value-place.result.1 in
    let from = c.value-from.result.1 in
    let room : place + c.min-count.result ≤ length values.raw = search rules in
    let other_room : from + c.min-count.result ≤ length others.raw = search rules in
    equal_so_far c.args.self.now.values c.args.other.now.values values.raw others.raw c.loop-i.i place from c.min-count.result room other_room c.value-place.ensures.follow c.value-from.ensures.follow
    (c.same_items.ensures.0 c.if-not-same_items.false) c.loop-i.invariant

pub returns : goal.returns
returns c =
    let few : length c.args.self.now.values ≤ length c.args.other.now.values = search rules in
    (λ _. begins_by c.args.self.now.values c.args.other.now.values few (λ k h. c.loop-i.invariant k (omega (arith, c.len-in-loop-i.ensures, c.loop-i-test.false))), λ _. refl)
