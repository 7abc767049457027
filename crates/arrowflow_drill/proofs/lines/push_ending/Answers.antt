use Rattle.std.proofs.Common.{append_assoc}
use Rattle.arrowflow_drill.specs.Lines.{ending_line}
use Rattle.arrowflow_drill.proofs.lines.push_ending.Goals as goal

pub returns : goal.returns
unfolding ending_line
returns c =
    let first = c.in_ok-write.ensures.bytes in
    let second = c.in_ok-push_how_it_ended.ensures in
    let all = rw (second, first) at c.write-2.ensures.bytes in
    simp append_assoc (simp append_assoc at all)
