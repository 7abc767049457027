use Rattle.std.proofs.Common.{append_assoc}
use Rattle.arrowflow_drill.specs.Lines.{refusal_line}
use Rattle.arrowflow_drill.proofs.lines.push_refusal.Goals as goal

pub returns : goal.returns
unfolding refusal_line
returns c =
    let first = c.in_ok-write.ensures.bytes in
    let second = c.in_ok-push_call.ensures in
    let all = rw (second, first, c.refusal_name.ensures) at c.write-2.ensures.bytes in
    simp append_assoc (simp append_assoc at all)
