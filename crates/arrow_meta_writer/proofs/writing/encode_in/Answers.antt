use Rattle.std.proofs.Common.{◌≡◌, ◌↔◌, ℕ, List, [], Some, length, arith, sym, ap, subst, ◌∙◌}
use Rattle.std.proofs.lemmas.List.{append-nil}
use Rattle.arrow_flatbuf.specs.Nodes.{after}
use Rattle.arrow_flatbuf.proofs.Buffers.{buffer_begun, buffer_written}
use Rattle.arrow_meta_writer.specs.Aligned.{LiesAligned}
use Rattle.arrow_meta_reader.specs.Judges.{MetadataMeans}
use Rattle.arrow_meta_writer.specs.Layouts.{message_node}
use Rattle.arrow_meta_reader.specs.Means.{message_view}
use Rattle.arrow_meta_writer.specs.Metadata.{metadata, size_of}
use Rattle.arrow_meta_writer.specs.Writable.{Allows}
use Rattle.arrow_meta_writer.specs.Written.{message_tree}
use Rattle.arrow_meta_writer.proofs.Sizing.{some_from}
use Rattle.arrow_meta_writer.proofs.WrittenMeans.{sized, written_length, written_aligned}
use Rattle.arrow_meta_writer.proofs.WrittenMeans.{written_means}
use Rattle.arrow_meta_writer.proofs.writing.encode_in.Goals as goal

pub write_message-requires : goal.write_message-requires
write_message-requires c =
    let m = message_view c.args.message.now in
    let some = some_from (size_of m) c.requires in
    let is = sized m some.0 some.1 in
    let four = buffer_begun (message_node m) c.in_room-writer.result c.offset.new.self c.table_place.result c.in_room-writer.ensures c.in_ok-offset.ensures.ok in
    record { room = omega (arith, ap (λ (n : ℕ). after n (message_node m)) four, is.small); body = is.body }

pub returns : goal.returns
returns c =
    let m = message_view c.args.message.now in
    let some = some_from (size_of m) c.requires in
    let bytes : c.into_bytes.result.items ≡ metadata m =
    c.into_bytes.ensures ∙ buffer_written (message_node m) c.in_room-writer.result c.offset.new.self c.write_message.new.writer c.pad.new.self c.table_place.result
    c.in_room-writer.ensures c.table_place.ensures.value c.in_ok-offset.ensures.ok c.in_ok-write_message.ensures.bytes c.in_ok-pad.ensures.ok in
    let header = c.in_ok-write_message.ensures.typed in
    record {
      bytes = bytes;
      lies = λ types. subst (λ bs. LiesAligned types (message_tree types m) bs) (append-nil (metadata m) ∙ sym bytes) (written_aligned types m some.0 [] header some.1);
      means = λ limits. subst (λ bs. MetadataMeans limits bs m ↔ Allows limits m) (append-nil (metadata m) ∙ sym bytes) (written_means m some.0 [] header some.1 limits);
      size = ap (λ (bs : List ℕ). Some (length bs)) bytes ∙ ap Some (written_length m some.0 some.1) ∙ sym some.1;
      typed = header;
    }
