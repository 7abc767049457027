use Rattle.std.proofs.Common.{◌+◌, [], ◌∷◌, take, ap, sym, ◌∙◌, subst}
use Rattle.arrow_body_laws.specs.Stored.{own_chunks, own_node}
use Rattle.arrow_body_writer.proofs.Chunks.{chunk_next, chunk_past, some_alignment, stores_more}
use Rattle.arrow_body_writer.proofs.Rooms.{node_rooms}
use Rattle.arrow_body_writer.specs.Align.{alignment_of}
use Rattle.arrow_body_slots.specs.Part.{chunk_of, part_of}
use Rattle.arrow_body_writer.specs.Storing.{Stores}
use Rattle.arrow_body_writer.specs.Source.{column_in}
use Rattle.arrow_body_writer.proofs.body.put_counted.Goals as goal
use Rattle.arrow_body_writer.proofs.body.put_counted.Goals.{in-Some+in_ok-put_chunk, in_default}

-- each number has room
pub put_chunk-requires-clause-room : goal.put_chunk-requires-clause-room
put_chunk-requires-clause-room c =
    node_rooms (column_in c.args.node.now.source) c.requires.raws c.loop-k.k c.in-Some.part
    (ap (λ f. part_of f c.loop-k.k) (sym c.requires.form) ∙ sym c.part_of.ensures ∙ c.in-Some.is)

-- one more buffer, or none
pub loop-k-preserved : goal.loop-k-preserved
loop-k-preserved c =
    let k = c.loop-k.k in
    let form = c.args.form in
    let align = alignment_of c.args.align in
    let sent = (column_in c.args.node.now.source).raw in
    let own = own_chunks form sent in
    elim c.match-part_of.branch [
      | in-Some+in_ok-put_chunk w ↦ subst (λ b. Stores align (own_node sent ∷ []) (take (k + 1) own) c.args.body.now b) (sym w.body-is)
          (subst (λ xs. Stores align (own_node sent ∷ []) xs c.args.body.now w.put_chunk.new.body) (sym (chunk_next form k sent w.in-Some.part (sym c.part_of.ensures ∙ w.in-Some.is)))
          (stores_more align (own_node sent ∷ []) [] (take k own) (chunk_of w.in-Some.part sent ∷ []) c.args.body.now c.loop-k.body w.put_chunk.new.body (some_alignment c.args.align) c.loop-k.invariant w.in_ok-put_chunk.ensures))
      | in_default w ↦ subst (λ b. Stores align (own_node sent ∷ []) (take (k + 1) own) c.args.body.now b) (sym w.body-is)
          (subst (λ xs. Stores align (own_node sent ∷ []) xs c.args.body.now c.loop-k.body) (sym (chunk_past form k sent (sym w.in_default.ensures))) c.loop-k.invariant)
    ]
