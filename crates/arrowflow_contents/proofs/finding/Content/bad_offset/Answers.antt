use Rattle.std.proofs.Common.{rules, ◌<◌, ◌⊎◌}
use Rattle.arrowflow_contents.proofs.finding.Content.bad_offset.Goals as goal

pub returns-then-end-start : goal.returns-then-end-start
returns-then-end-start c =
    let inside : c.loop-slot.slot < c.in_ok-slot-end.slot-end = search rules in
    let bad : (c.in_ok-start.end < c.in_ok-start.start) ⊎ (c.args.top < c.in_ok-start.end) = search rules in
    ((c.in_ok-slot-end.slot-end, c.in_ok-slot-end.ensures, inside), c.in_ok-start.ensures, bad)
