use Rattle.std.proofs.Common.{◌≡◌, ◌∙◌, ap, length, sym, append_assoc}
use Rattle.arrowflow_drill.specs.Lines.{handed_line}
use Rattle.arrowflow_drill.proofs.lines.push_handed.Goals as goal

pub returns : goal.returns
unfolding handed_line
returns c =
    let rows = rw c.deref.ensures.value at c.in_ok-rows.ensures in
    let count : c.len-handed.result ≡ length c.args.report.now.received.handed.items = c.len-handed.ensures ∙ sym c.deref.ensures.len ∙ ap length c.deref.ensures.value in
    let all = rw (c.in_ok-write.ensures.bytes, rows, count) at c.write-2.ensures.bytes in
    simp append_assoc (simp append_assoc at all)
