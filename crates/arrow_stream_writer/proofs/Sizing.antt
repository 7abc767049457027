-- Why the size of a batch's metadata depends only on its fields.
use Rattle.std.proofs.Common.{◌≡◌, ℕ, ℤ, ◌+◌, ◌-◌, ◌*◌, pos, Bool, List, length, map, sym, ap, ◌∙◌}
use Rattle.std.proofs.lemmas.List.{length-map, length-replicate}
use Rattle.arrow_types.specs.Field.{FieldTree}
use Rattle.arrow_types.specs.declared.node.FieldNode.{FieldNode}
use Rattle.arrow_types.specs.declared.node.Buffer.{Buffer}
use Rattle.arrow_body_reader.specs.Taken.{taken_nodes, taken_buffers}
use Rattle.arrow_body_laws.specs.Stored.{rounded}
use Rattle.arrow_flatbuf.specs.Layout.{gap, up}
use Rattle.arrow_flatbuf.specs.Nodes.{after, pairs, table}
use Rattle.arrow_meta_reader.specs.Means.{PlainBatch, batch, dictionary}
use Rattle.arrow_meta_writer.specs.Layouts.{node_pair, buffer_pair, batch_cells}
use Rattle.arrow_stream_laws.specs.Sizes.{batch_size, blank_batch, dictionary_size, header_size}

-- the offset at which a vector of pairs ends
pairs_end : (p : ℕ) (xs ys : List (ℕ × ℕ)) → length xs ≡ length ys → after p (pairs xs) ≡ after p (pairs ys)
pairs_end p xs ys same = ap (λ n. p + gap 8 (p + 4) + 4 + 16 * n) same

-- the offset at which the tables of a batch end
batch_end : (p : ℕ) (a b : PlainBatch) → length a.nodes ≡ length b.nodes → length a.buffers ≡ length b.buffers → after p (table (batch_cells a)) ≡ after p (table (batch_cells b))
batch_end p a b nodes buffers =
    let ns = length-map a.nodes node_pair ∙ nodes ∙ sym (length-map b.nodes node_pair) in
    let bs = length-map a.buffers buffer_pair ∙ buffers ∙ sym (length-map b.buffers buffer_pair) in
    pairs_end _ (map buffer_pair a.buffers) (map buffer_pair b.buffers) bs ∙ ap (λ q. after q (pairs (map buffer_pair b.buffers))) (pairs_end _ (map node_pair a.nodes) (map node_pair b.nodes) ns)

-- a batch with as many nodes and buffers as a blank one has its size
pub batch_sized : (align : ℕ) (fields : FieldTree) (b : PlainBatch) → length b.nodes ≡ taken_nodes fields → length b.buffers ≡ taken_buffers fields → header_size align (batch b) ≡ batch_size align fields
batch_sized align fields b nodes buffers =
    let blank = blank_batch fields in
    let n = nodes ∙ sym (length-replicate {A = FieldNode} (taken_nodes fields) (record { length = pos 0; null_count = pos 0 })) in
    let k = buffers ∙ sym (length-replicate {A = Buffer} (taken_buffers fields) (record { offset = pos 0; length = pos 0 })) in
    ap (λ e. rounded align (8 + up 8 e) - 8) (batch_end _ b blank n k)

pub dictionary_sized : (align : ℕ) (fields : FieldTree) (id : ℤ) (is_delta : Bool) (b : PlainBatch) → length b.nodes ≡ taken_nodes fields → length b.buffers ≡ taken_buffers fields
    → header_size align (dictionary id is_delta b) ≡ dictionary_size align fields
dictionary_sized align fields id is_delta b nodes buffers =
    let blank = blank_batch fields in
    let n = nodes ∙ sym (length-replicate {A = FieldNode} (taken_nodes fields) (record { length = pos 0; null_count = pos 0 })) in
    let k = buffers ∙ sym (length-replicate {A = Buffer} (taken_buffers fields) (record { offset = pos 0; length = pos 0 })) in
    ap (λ e. rounded align (8 + up 8 e) - 8) (batch_end _ b blank n k)
