use Rattle.std.proofs.Common.{append_assoc}
use Rattle.arrowflow_drill.specs.Lines.{dictionaries_line}
use Rattle.arrowflow_drill.proofs.lines.push_dictionaries.Goals as goal

pub returns : goal.returns
unfolding dictionaries_line
returns c =
    let all = rw (c.in_ok-push_entries-2.ensures, c.in_ok-push_str.ensures.bytes, c.in_ok-push_entries.ensures, c.in_ok-write.ensures.bytes, c.deref.ensures.value, c.deref-2.ensures.value) at c.write-2.ensures.bytes in
    simp append_assoc (simp append_assoc at all)
