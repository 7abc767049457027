use Rattle.std.proofs.Common.{rules, ◌≡◌, length}
use Rattle.arrow_body_writer.proofs.Wholes.{none_whole, run_whole}
use Rattle.arrow_body_writer.proofs.whole.whole_items.Goals as goal

-- the items are all slots of the child
pub returns-in-Some : goal.returns-in-Some
returns-in-Some c =
    let begins : c.in-Some.all.start ≡ 0 = search rules in
    let ends : c.in-Some.all.stop ≡ length c.in-Some.all.array.now.raw = search rules in
    run_whole c.args.array.now c.in-Some.all.array.now c.len-stop.result c.in-Some.all.start c.in-Some.all.stop c.in_ok-own.ensures.is_list c.in-Some.ensures c.len-stop.ensures.count begins ends

-- also if there are none
pub returns-in-None : goal.returns-in-None
returns-in-None c =
    let empty : length c.in_ok-own.own.now.raw ≡ 0 = search rules in
    none_whole c.args.array.now c.in_ok-own.own.now c.len-stop.result c.in_ok-own.ensures c.in-None.ensures c.len-stop.ensures.count empty
