-- A stored body is a body of its raw values.
use Rattle.std.proofs.Common.{ap, ◌∙◌}
use Rattle.std.specs.List.{sum_by}
use Rattle.arrow_body_reader.specs.Sound.{IsNodeLaid, IsNodeText}
use Rattle.arrow_body_laws.specs.Laws.{StoredIsRead}
use Rattle.arrow_body_laws.specs.Stored.{rounded, stored, stored_chunks}
use Rattle.arrow_body_laws.proofs.Indexed.{all_indexed}
use Rattle.arrow_body_laws.proofs.Placed.{body_long}
use Rattle.arrow_body_laws.proofs.Readback.{columns_read}
use Rattle.arrow_body_laws.proofs.Soundness.{all_nodes, are_stored, chunks_sized, node_laid, node_text, places_long}
use Rattle.arrow_body_laws.proofs.Walk.{chunks_long, nodes_long}

-- a stored body is a body of its raw values
pub is_read : StoredIsRead
is_read = λ align fields raws some raw small.
    let s = are_stored align fields raws some raw small in
    let b = stored align fields raws in
    record {
      just_nodes = nodes_long fields raws raw;
      just_buffers = places_long align 0 (stored_chunks fields raws) ∙ chunks_long fields raws raw;
      laid = all_nodes (IsNodeLaid b.bytes) b.bytes (node_laid b.bytes) fields raws b.nodes b.buffers s;
      text = all_nodes (IsNodeText b.bytes) b.bytes (node_text b.bytes) fields raws b.nodes b.buffers s;
      indexed = λ ds has. all_indexed b.bytes ds fields raws b.nodes b.buffers s has;
      raw = λ ds. columns_read b.bytes ds fields raws b.nodes b.buffers s;
      sized = body_long align (stored_chunks fields raws) some ∙ ap (sum_by (rounded align)) (chunks_sized fields raws raw);
    }
