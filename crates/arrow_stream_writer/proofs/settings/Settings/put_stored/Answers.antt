use Rattle.std.proofs.Common.{◌≡◌, List, ◌++◌, length, rules, ap, sym, ◌∙◌, subst, arith, w64, to_z, pos}
use Rattle.std.specs.Prelude.{not}
use Rattle.std.proofs.lemmas.Int.{to_z_pos}
use Rattle.arrow_body_writer.proofs.Chunks.{some_alignment}
use Rattle.arrow_body_writer.specs.Storing.{body_view}
use Rattle.arrow_meta_reader.specs.Means.{header_view, PlainBatch}
use Rattle.arrow_stream_writer.specs.Framing.{PutsMessage, header_of}
use Rattle.arrow_stream_writer.specs.Terms.{terms_of}
use Rattle.arrow_stream_writer.proofs.Framed.{answers_load, body_over, few_by, rows_over, slots_over}
use Rattle.arrow_stream_writer.proofs.settings.Settings.put_stored.Goals as goal

-- too many rows
pub returns-then-rows-max_rows : goal.returns-then-rows-max_rows
returns-then-rows-max_rows c = λ load kind rows s.
    let limit = c.max_rows-max_rows.ensures.value in
    let over = c.if-rows-max_rows.true in
    rows_over (terms_of c.args.self.now) load (body_view c.args.part.now.body) s (some_alignment c.args.self.now.align) (omega arith)

-- a body too long
pub returns-then-len-max_body : goal.returns-then-len-max_body
returns-then-len-max_body c = λ load kind rows s.
    let limit = c.max_body.ensures.value in
    let long = c.len.ensures in
    let over = c.if-len-max_body.true in
    body_over (terms_of c.args.self.now) load (body_view c.args.part.now.body) s (some_alignment c.args.self.now.align) (omega arith)

-- a node with too many slots
pub returns-then-have_bad_length : goal.returns-then-have_bad_length
returns-then-have_bad_length c = λ load kind rows s.
    let terms = terms_of c.args.self.now in
    let some = some_alignment c.args.self.now.align in
    let b = body_view c.args.part.now.body in
    let few = few_by terms load b s some c.deref.result.now c.max_rows-max_rows.result c.have_bad_length.result c.deref.ensures.value c.max_rows-max_rows.ensures.value c.have_bad_length.ensures in
    slots_over terms load b s some (few ∙ ap not c.if-have_bad_length.true)

-- the frame was appended, or not
pub returns : goal.returns
returns c = λ load kind rows s.
    let terms = terms_of c.args.self.now in
    let some = some_alignment c.args.self.now.align in
    let b = body_view c.args.part.now.body in
    let few = few_by terms load b s some c.deref.result.now c.max_rows-max_rows.result c.have_bad_length.result c.deref.ensures.value c.max_rows-max_rows.ensures.value c.have_bad_length.ensures in
    let row_limit = c.max_rows-max_rows.ensures.value in
    let row_ceiling = c.max_rows-max_rows.ensures.ceiling in
    let rows_few = c.if-rows-max_rows.false in
    let body_limit = c.max_body.ensures.value in
    let long = c.len.ensures in
    let body_short = c.if-len-max_body.false in
    let count = to_z_pos w64 c.args.rows (omega arith) ∙ ap pos (sym rows) in
    let header = header_view c.header_of.result in
    let batch : PlainBatch = record { length = pos load.rows; nodes = b.nodes; buffers = b.buffers } in
    let nodes = c.replace.ensures.value in
    let buffers = c.replace-2.ensures.value in
    let is_header = c.header_of.ensures ∙ (λ i. header_of c.args.kind (record batch { length = to_z w64 c.args.rows; nodes = (nodes i).items; buffers = (buffers i).items }))
    ∙ ap (λ n. header_of c.args.kind (record batch { length = n })) count ∙ ap (λ k. header_of k batch) (sym kind) in
    let reported : c.len-2.result ≡ length b.bytes = search rules in
    answers_load terms load b s some header c.put_head-answer.result c.args.part.now.bytes.items (c.put_head-answer.new.out.items ++ c.give_back.new.body.bytes.items) is_header (omega arith) (omega arith) (few ∙ ap not c.if-have_bad_length.false)
    (subst (λ (body : List _). PutsMessage terms header b.bytes c.args.part.now.bytes.items c.put_head-answer.result (c.put_head-answer.new.out.items ++ body)) (sym c.give_back.ensures) (c.put_head-answer.ensures b.bytes reported))
