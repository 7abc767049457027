use Rattle.std.proofs.Common.{◌≡◌, ◌∙◌, ap, length, min, sym, take, append_assoc}
use Rattle.std.proofs.lemmas.List.{length-map, length-take}
use Rattle.arrow_stream_laws.specs.Text.{joined}
use Rattle.arrowflow_session.specs.Report.{items_of}
use Rattle.arrowflow_drill.specs.Counts.{bytes_in}
use Rattle.arrowflow_drill.proofs.Lined.{length-joined}
use Rattle.arrowflow_drill.specs.Lines.{written_line}
use Rattle.arrowflow_drill.proofs.lines.push_written.Goals as goal

pub returns : goal.returns
unfolding written_line
returns c =
    let parts = c.args.report.now.parts.items in
    let deliver = c.args.delivery.0 in
    let size : c.in_ok-size.size ≡ length (joined (items_of parts)) = c.in_ok-size.ensures ∙ ap bytes_in c.deref.ensures.value ∙ sym (length-joined parts) in
    let count : c.len-parts.result ≡ length (items_of parts) = c.len-parts.ensures ∙ sym c.deref.ensures.len ∙ ap length c.deref.ensures.value ∙ sym (length-map parts (λ v. v.items)) in
    let delivered : c.min-delivered.result ≡ length (take deliver (joined (items_of parts))) = c.min-delivered.ensures ∙ ap (min deliver) size ∙ sym (length-take deliver (joined (items_of parts))) in
    let first = rw (size, count) at c.in_ok-write.ensures.bytes in
    let all = rw (first, delivered) at c.write-2.ensures.bytes in
    simp append_assoc (simp append_assoc at all)
