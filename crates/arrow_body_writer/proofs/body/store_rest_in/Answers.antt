use Rattle.std.proofs.Common.{[], ◌∷◌, sym, subst, arith}
use Rattle.arrow_body_laws.proofs.MadeCanonical.{is_canonical}
use Rattle.arrow_body_laws.proofs.Whole.{is_read}
use Rattle.arrow_body_laws.specs.Laws.{IsBodyOf, raws_of}
use Rattle.arrow_body_laws.specs.Stored.{PlainBody, fields_of_columns}
use Rattle.arrow_body_laws.specs.Canonical.{IsCanonical}
use Rattle.arrow_body_writer.proofs.Chunks.{some_alignment, stored_from}
use Rattle.arrow_body_writer.specs.Align.{alignment_of}
use Rattle.arrow_body_writer.specs.Source.{rest_of}
use Rattle.arrow_body_writer.proofs.body.store_rest_in.Goals as goal

-- the column has too many nodes
pub returns-then-nodes-clause-large : goal.returns-then-nodes-clause-large
returns-then-nodes-clause-large c = λ large represented. omega (arith, represented.counted.0, c.nodes_in_rest-nodes.ensures.count c.args.from, c.if-nodes.true)

-- it has few enough nodes
pub put_column-requires-clause-counted : goal.put_column-requires-clause-counted
put_column-requires-clause-counted c = omega (arith, c.nodes_in_rest-nodes.ensures.count c.args.from, c.if-nodes.false)

-- reading the body gives what was stored
pub returns-in-Ok-clause-read : goal.returns-in-Ok-clause-read
returns-in-Ok-clause-read c =
    let cs = rest_of c.args.dictionary.now c.args.from ∷ [] in
    let align = alignment_of c.args.align in
    let empty = c.begin.ensures in
    let all = c.in-Ok.ensures.stored in
    let same = stored_from align cs c.begin.new.self c.put_column.new.body empty.no_nodes empty.no_buffers empty.no_bytes all.stored in
    subst (IsBodyOf align (fields_of_columns cs) (raws_of cs)) (sym same)
    (is_read align (fields_of_columns cs) (raws_of cs) (some_alignment c.args.align) (c.nodes_in_rest-nodes.ensures.raws c.args.from) all.represented.small)

-- and the body is canonical
pub returns-in-Ok-clause-canonical : goal.returns-in-Ok-clause-canonical
returns-in-Ok-clause-canonical c =
    let cs = rest_of c.args.dictionary.now c.args.from ∷ [] in
    let align = alignment_of c.args.align in
    let empty = c.begin.ensures in
    let all = c.in-Ok.ensures.stored in
    let same = stored_from align cs c.begin.new.self c.put_column.new.body empty.no_nodes empty.no_buffers empty.no_bytes all.stored in
    subst (λ (b : PlainBody). IsCanonical align (fields_of_columns cs) b.nodes b.buffers b.bytes) (sym same)
    (is_canonical align (fields_of_columns cs) (raws_of cs) (some_alignment c.args.align) (c.nodes_in_rest-nodes.ensures.raws c.args.from) all.represented.small)
