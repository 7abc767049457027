use Rattle.std.proofs.Common.{◌≤◌, ◌+◌, ◌-◌, ◌*◌, length, refl, ◌∙◌, arith}
use Rattle.arrow_body_slots.proofs.Numbering.{as_long, cleared_all, cleared_first, cleared_more, cleared_on, room_for}
use Rattle.arrow_body_slots.proofs.masked.NullMasked.clear_nulls.Goals as goal

-- up to the first null nothing has to be cleared
pub loop-i-init : goal.loop-i-init
loop-i-init c =
    let n = c.args.self in
    let start = c.args.start in
    let stop = c.args.stop in
    let first = c.first_unset-i.ensures in (
      first.low,
      first.high,
      first.unset,
      refl,
      λ raw has inside is. is ∙ cleared_first n raw start stop ∙ cleared_on n raw start stop start c.first_unset-i.result has (omega arith) inside first,
    )

-- one more null, and the slots up to the next
pub loop-i-preserved : goal.loop-i-preserved
loop-i-preserved c =
    let n = c.args.self in
    let start = c.args.start in
    let stop = c.args.stop in
    let i = c.loop-i.i in
    let numbers = c.loop-i.numbers in
    let next = c.first_unset-i-in-loop-i.ensures in
    let low = c.loop-i.invariant.0 in
    let here_is = c.loop-i-test.true in
    let room : n.width * (i - start) + n.width ≤ length numbers =
    room_for n.width i start stop (length numbers) low here_is (omega (arith, c.requires.room, c.loop-i.invariant.3)) in (
      omega (arith, next.low, low),
      next.high,
      next.unset,
      as_long numbers c.clear.new.bytes (n.width * (i - start)) n.width room c.clear.ensures ∙ c.loop-i.invariant.3,
      λ raw has inside is.
          c.clear.ensures
          ∙ cleared_more n raw numbers start stop i has low here_is inside (c.loop-i.invariant.2 here_is) (c.loop-i.invariant.4 raw has inside is)
          ∙ cleared_on n raw start stop (i + 1) c.first_unset-i-in-loop-i.result has (omega (arith, low)) inside next,
    )

-- all nulls are cleared
pub returns : goal.returns
returns c raw has inside is =
    cleared_all c.args.self raw c.loop-i.numbers c.args.start c.args.stop c.loop-i.i (omega (arith, c.loop-i-test.false, c.loop-i.invariant.1))
    (c.loop-i.invariant.4 raw has inside is)
