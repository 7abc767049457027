use Rattle.std.proofs.Common.{[], ◌∷◌, subst}
use Rattle.arrow_body_laws.specs.Stored.{own_node}
use Rattle.arrow_body_writer.proofs.Chunks.{some_alignment, stores_more}
use Rattle.arrow_body_writer.proofs.FullNodes.{full_numbers, full_structs}
use Rattle.arrow_body_writer.specs.Align.{alignment_of}
use Rattle.arrow_body_writer.specs.Storing.{Stores}
use Rattle.arrow_body_writer.proofs.body.put_own.Goals as goal

-- structs
pub returns-in_ok-put_full-in-Some-Structs-clause-stored : goal.returns-in_ok-put_full-in-Some-Structs-clause-stored
returns-in_ok-put_full-in-Some-Structs-clause-stored c =
    let a = c.args.array.now in
    let full = c.in-Some-Structs.ensures in
    subst (λ chunks. Stores (alignment_of c.args.align) (own_node a.raw ∷ []) chunks c.args.body.now c.put_full.new.body)
    (full_structs a c.in-Some-Structs.field-0 full.form c.in-Some-Structs.field-0-is full.full)
    c.in_ok-put_full-in-Some-Structs.ensures

-- and numbers
pub returns-in_ok-put_bytes-in-Some-Numbers-clause-stored : goal.returns-in_ok-put_bytes-in-Some-Numbers-clause-stored
returns-in_ok-put_bytes-in-Some-Numbers-clause-stored c =
    let a = c.args.array.now in
    let align = alignment_of c.args.align in
    let full = c.in-Some-Numbers.ensures in
    let bytes = c.value_bytes.result.now in
    subst (λ chunks. Stores align (own_node a.raw ∷ []) chunks c.args.body.now c.put_bytes.new.body)
    (full_numbers a c.in-Some-Numbers.field-0 c.in-Some-Numbers.field-0-0 c.len.result bytes full.known full.form c.in-Some-Numbers.field-0-is full.full c.len.ensures.count c.value_bytes.ensures)
    (stores_more align (own_node a.raw ∷ []) [] ([] ∷ []) (bytes ∷ []) c.args.body.now c.put_full-in-Some-Numbers.new.body c.put_bytes.new.body (some_alignment c.args.align)
    c.in_ok-put_full-in-Some-Numbers.ensures c.in_ok-put_bytes-in-Some-Numbers.ensures)
