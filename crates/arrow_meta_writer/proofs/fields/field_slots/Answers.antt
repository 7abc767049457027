use Rattle.std.proofs.Common.{refl, ◌≡◌, ◌≤◌, ℕ, suc, List, [], ◌∷◌, take, is_some, Option, arith, sym, ap}
use Rattle.std.proofs.Common.{◌∙◌}
use Rattle.arrow_flatbuf.specs.declared.layout.FieldValue.{FieldValue}
use Rattle.arrow_flatbuf.specs.declared.layout.FieldValue.TheVariants.{Scalar, Target}
use Rattle.arrow_flatbuf.specs.declared.layout.Width.TheVariants.{One}
use Rattle.arrow_flatbuf.specs.Layout.{up, table_place}
use Rattle.arrow_flatbuf.specs.Nodes.{cells_place, count, after, after_cells, slots, table, tables}
use Rattle.arrow_flatbuf.specs.Nodes.{text, offset}
use Rattle.arrow_flatbuf.proofs.Laid.{ahead_cells, reaches}
use Rattle.arrow_types.specs.DataType.{TypeId}
use Rattle.arrow_types.specs.Field.{width}
use Rattle.arrow_types.specs.Notes.{KeyValue, pairs_view}
use Rattle.arrow_types.specs.View.{field_notes, field_view}
use Rattle.arrow_types.specs.declared.field.Encoding.{Encoding}
use Rattle.arrow_meta_writer.specs.Appends.{after_encoding, encoding_slot, field_node}
use Rattle.arrow_meta_writer.specs.Capped.{capped}
use Rattle.arrow_meta_tree.specs.Types.{type_code}
use Rattle.arrow_meta_schema.specs.Conditions.{children_fit}
use Rattle.arrow_meta_writer.specs.Layouts.{flag, tag_code, type_cells, with_encoding, field_cells}
use Rattle.arrow_meta_writer.specs.Layouts.{field_nodes, metadata_cells}
use Rattle.arrow_meta_writer.proofs.WithEncoding.{children_after, last_slots}
use Rattle.arrow_meta_writer.proofs.Exact.{exact, exact_table, exact_after}
use Rattle.arrow_meta_writer.proofs.FieldParts.{field_name, field_nullable, field_tag}
use Rattle.arrow_meta_writer.proofs.FieldParts.{field_encoding, field_children, field_pairs}
use Rattle.arrow_meta_writer.proofs.FieldRows.{field_count}
use Rattle.arrow_meta_writer.proofs.Noting.{Held, metadata_slots}
use Rattle.arrow_meta_writer.proofs.fields.field_slots.Goals as goal

pub field_table_end-table-requires-clause-low : goal.field_table_end-table-requires-clause-low
field_table_end-table-requires-clause-low c = omega (arith, reaches c.args.place (field_node (field_view c.args.field.now) (field_notes c.args.field.now)), c.requires.room)

pub returns-clause-slots : goal.returns-clause-slots
returns-clause-slots c =
    let p = c.args.place in
    let f = c.args.field.now in
    let head = (field_view f).head in
    let ps = (field_notes f).pairs in
    let children = field_nodes (field_view f).children (field_notes f).below in
    let cs = field_cells head ps children in
    let q = cells_place p cs in
    let name = text head.name in
    let type = table (type_cells head.tag) in
    let last = offset (tables children) (metadata_cells ps) in
    let rest = with_encoding head.encoding last in
    let y = after (after q name) type in
    let z = after_encoding y head.encoding in
    let m = after z (tables children) in
    let has : is_some head.encoding ≡ c.is_some.result = ap (λ (e : Option Encoding). is_some e) (sym (field_encoding f)) ∙ sym c.is_some.ensures in
    let noted : count (metadata_cells ps) ≡ c.metadata_fields.result =
    sym (c.metadata_fields.ensures.count ∙ ap (λ (xs : List Held). count (metadata_cells (pairs_view xs))) c.deref.ensures.value ∙ ap (λ (xs : List KeyValue). count (metadata_cells xs)) (field_pairs f)) in
    let at_table = exact_table c.field_table_end-table.result p p cs (c.field_table_end-table.ensures.end head ps children has noted) refl c.requires.room in
    let wrote_name : c.text_after-name.result ≡ capped (after c.field_table_end-table.result name) =
    c.text_after-name.ensures.end ∙ ap (λ (s : List ℕ). capped (after c.field_table_end-table.result (text s))) (c.deref-2.ensures ∙ field_name f) in
    let at_name = exact_after c.field_table_end-table.result c.text_after-name.result q name (offset type rest) wrote_name at_table c.requires.room in
    let wrote_type : c.type_end-data_type.result ≡ capped (after c.text_after-name.result type) =
    c.type_end-data_type.ensures.end ∙ ap (λ (t : TypeId). capped (after c.text_after-name.result (table (type_cells t)))) (field_tag f) in
    let at_type = exact_after c.text_after-name.result c.type_end-data_type.result (after q name) type rest wrote_type at_name c.requires.room in
    let wrote_encoding : c.encoding_end-children.result ≡ capped z =
    c.encoding_end-children.ensures.end ∙ ap (λ (e : Option Encoding). capped (after_encoding c.type_end-data_type.result e)) (field_encoding f) ∙ ap (λ (n : ℕ). capped (after_encoding n head.encoding)) at_type in
    let ends : after_cells y rest ≤ 1073741824 = c.requires.room in
    let at_children = exact c.encoding_end-children.result z wrote_encoding
    (omega (arith, children_after y head.encoding last, ahead_cells z last, ends)) in
    let wrote_children : c.fields_end-metadata.result ≡ capped (after c.encoding_end-children.result (tables children)) =
    c.fields_end-metadata.ensures.end ∙ (λ i. capped (after c.encoding_end-children.result (tables (field_nodes (c.children.ensures.fields i) (c.children.ensures.notes i))))) in
    let at_metadata = exact_after c.encoding_end-children.result c.fields_end-metadata.result z (tables children) (metadata_cells ps) wrote_children at_children
    (omega (arith, children_after y head.encoding last, ends)) in
    let at_0 : c.aligned.result ≡ up 4 q = c.aligned.ensures.value ∙ ap (up 4) at_table in
    let at_1 = c.bit.ensures.value ∙ ap flag (field_nullable f) in
    let at_2 = c.type_code.ensures.code ∙ ap tag_code (field_tag f) in
    let at_3 : c.table_place.result ≡ table_place (after q name) (count (type_cells head.tag)) =
    c.table_place.ensures.value ∙ ap (λ (n : ℕ). table_place c.text_after-name.result n) (c.type_fields.ensures.count ∙ ap (λ (t : TypeId). count (type_cells t)) (field_tag f))
    ∙ ap (λ (n : ℕ). table_place n (count (type_cells head.tag))) at_name in
    let at_4 : c.encoding_slot.result ≡ encoding_slot y head.encoding =
    c.encoding_slot.ensures ∙ ap (λ (n : ℕ). encoding_slot n f.dictionary) at_type ∙ ap (λ (e : Option Encoding). encoding_slot y e) (field_encoding f) in
    let at_5 : c.aligned-2.result ≡ up 4 z = c.aligned-2.ensures.value ∙ ap (up 4) at_children in
    let at_6 : c.aligned-3.result ≡ up 4 m = c.aligned-3.ensures.value ∙ ap (up 4) at_metadata in
    let k = count (metadata_cells ps) in
    let ss : List FieldValue = Target c.aligned.result ∷ Scalar One c.bit.result ∷ Scalar One c.type_code.result ∷ Target c.table_place.result ∷ c.encoding_slot.result ∷ Target c.aligned-2.result ∷ Target c.aligned-3.result ∷ [] in
    let tail : take k (Target c.aligned-3.result ∷ []) ≡ slots m (metadata_cells ps) =
    ap (λ (x : ℕ). take k (Target x ∷ [])) at_6 ∙ metadata_slots m ps in
    let front = λ (later : List FieldValue). Target (up 4 q) ∷ Scalar One (flag head.nullable) ∷ Scalar One (tag_code head.tag) ∷ Target (table_place (after q name) (count (type_cells head.tag))) ∷ later in
    let literal : take (suc (suc (suc (suc (suc (suc k)))))) ss ≡ front (encoding_slot y head.encoding ∷ Target (up 4 z) ∷ slots m (metadata_cells ps)) =
    λ i. Target (at_0 i) ∷ Scalar One (at_1 i) ∷ Scalar One (at_2 i) ∷ Target (at_3 i) ∷ at_4 i ∷ Target (at_5 i) ∷ tail i in
    ap (λ (n : ℕ). take n ss) (field_count (field_view f) (field_notes f)) ∙ literal ∙ ap front (sym (last_slots y head.encoding last))

pub returns-clause-fits : goal.returns-clause-fits
returns-clause-fits c =
    let f = c.args.field.now in
    sym (λ i. children_fit (type_code (tag_code (field_tag f i))) (width (field_children f i))) ∙ c.type_code.ensures.fits
