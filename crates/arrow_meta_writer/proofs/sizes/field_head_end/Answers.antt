use Rattle.std.proofs.Common.{◌≡◌, ℕ, List, is_some, Option, arith, sym, ap, ◌∙◌}
use Rattle.arrow_flatbuf.specs.Nodes.{after, after_cells, cells_place, count, offset, table, tables, text}
use Rattle.arrow_flatbuf.proofs.Laid.{ahead_cells, reaches}
use Rattle.arrow_types.specs.DataType.{TypeId}
use Rattle.arrow_types.specs.Notes.{KeyValue, pairs_view}
use Rattle.arrow_types.specs.View.{field_notes, field_view}
use Rattle.arrow_types.specs.declared.field.Encoding.{Encoding}
use Rattle.arrow_meta_writer.specs.Appends.{after_encoding}
use Rattle.arrow_meta_writer.specs.Capped.{capped}
use Rattle.arrow_meta_writer.specs.Layouts.{type_cells, field_cells, metadata_cells}
use Rattle.arrow_meta_writer.proofs.Capping.{caps, cap_step}
use Rattle.arrow_meta_writer.proofs.WithEncoding.{encoding_grows, children_after}
use Rattle.arrow_meta_writer.proofs.FieldParts.{field_name, field_tag, field_encoding, field_pairs}
use Rattle.arrow_meta_writer.proofs.Noting.{Held}
use Rattle.arrow_meta_writer.proofs.sizes.field_head_end.Goals as goal

pub returns-clause-end : goal.returns-clause-end
returns-clause-end c children =
    let f = c.args.field.now in
    let head = (field_view f).head in
    let ps = (field_notes f).pairs in
    let rest = offset (tables children) (metadata_cells ps) in
    let place = cells_place c.args.place (field_cells head ps children) in
    let has : is_some head.encoding ≡ c.is_some.result = ap (λ (e : Option Encoding). is_some e) (sym (field_encoding f)) ∙ sym c.is_some.ensures in
    let noted : count (metadata_cells ps) ≡ c.metadata_fields.result =
    sym (c.metadata_fields.ensures.count ∙ ap (λ (xs : List Held). count (metadata_cells (pairs_view xs))) c.deref.ensures.value ∙ ap (λ (xs : List KeyValue). count (metadata_cells xs)) (field_pairs f)) in
    let at_table = c.field_table_end.ensures.end head ps children has noted in
    let name = text head.name in
    let type = table (type_cells head.tag) in
    let wrote_name : c.text_after-name.result ≡ capped (after c.field_table_end.result name) =
    c.text_after-name.ensures.end ∙ ap (λ (s : List ℕ). capped (after c.field_table_end.result (text s))) (c.deref-2.ensures ∙ field_name f) in
    let at_name = caps (λ q. after q name) (λ q. omega (arith, reaches q name)) c.field_table_end.result c.text_after-name.result place at_table wrote_name in
    let wrote_type : c.type_end.result ≡ capped (after c.text_after-name.result type) =
    c.type_end.ensures.end ∙ ap (λ (t : TypeId). capped (after c.text_after-name.result (table (type_cells t)))) (field_tag f) in
    let at_type = caps (λ q. after q type) (λ q. omega (arith, reaches q type)) c.text_after-name.result c.type_end.result (after place name) at_name wrote_type in
    let wrote_encoding : c.encoding_end.result ≡ capped (after_encoding c.type_end.result head.encoding) =
    c.encoding_end.ensures.end ∙ ap (λ (e : Option Encoding). capped (after_encoding c.type_end.result e)) (field_encoding f) in
    let at_children = caps (λ q. after_encoding q head.encoding) (λ q. encoding_grows q head.encoding) c.type_end.result c.encoding_end.result (after (after place name) type) at_type wrote_encoding in
    ap (λ (n : ℕ). capped (after_cells n rest)) at_children
    ∙ cap_step (λ q. after_cells q rest) (λ q. ahead_cells q rest) (after_encoding (after (after place name) type) head.encoding)
    ∙ ap capped (sym (children_after (after (after place name) type) head.encoding rest))
