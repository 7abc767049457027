use Rattle.std.proofs.Common.{◌≡◌, ◌++◌, true, false, ap, sym, ◌∙◌}
use Rattle.arrow_body_slots.proofs.Counting.{chunk_is, chunk_put}
use Rattle.arrow_body_writer.specs.Align.{alignment_of}
use Rattle.arrow_body_writer.specs.Counts.{sent_at}
use Rattle.arrow_body_slots.specs.Part.{chunk_of}
use Rattle.arrow_body_slots.specs.declared.part.BufferKind.TheVariants.{Validity}
use Rattle.arrow_body_writer.proofs.buffers.put_buffer.Goals as goal
use Rattle.arrow_body_writer.proofs.buffers.put_buffer.Goals.{else-tally-eq0-via-then-tally-eq0+else-matches, in-Validity, in_default, else-tally-eq0-via-else-tally-eq0}

-- the buffer is sent, and its padding
pub returns : goal.returns
returns c =
    let vs = sent_at c.args.node.now in
    let other : c.args.node.now.tally.nulls ≡ 0 → c.args.part ≡ Validity → ⊥ = λ none validity. elim c.else-tally-eq0.branch [
      | else-tally-eq0-via-then-tally-eq0+else-matches w ↦ (elim w.match-matches.branch [ in-Validity v ↦ (let no : false ≡ true = sym w.if-matches.false ∙ v.matches-is in cc) | in_default v ↦ v.in_default.not-Validity validity ])
      | else-tally-eq0-via-else-tally-eq0 w ↦ w.if-tally-eq0.false none
    ] in
    let chunk = chunk_is c.args.part vs c.args.node.now.tally.nulls c.requires.counted.nulls other in
    chunk_put (alignment_of c.args.align) c.len-start.result c.len.result c.args.out.items c.in_ok-written.written.items c.put_padding.new.out.items (chunk_of c.args.part vs)
    (c.len-start.ensures ∙ c.args.out.ok.0) (c.len.ensures ∙ c.in_ok-written.written.ok.0) (c.in_ok-written.ensures ∙ ap (λ b. c.args.out.items ++ b) (sym chunk)) c.in_ok-put_padding.ensures
