use Rattle.std.proofs.Common.{◌≡◌, ℕ, ◌≤◌, List, ◌++◌, length, take, Option, sym, ap, subst, ◌∙◌}
use Rattle.std.specs.Str.{is_utf8}
use Rattle.std.proofs.lemmas.Str.{is_utf8-from_IsUtf8}
use Rattle.arrow_flatbuf.specs.Nodes.{after, cells_place, laid, slots, table, text}
use Rattle.arrow_flatbuf.proofs.Left.{begun}
use Rattle.arrow_types.specs.DataType.{TypeId}
use Rattle.arrow_types.specs.View.{field_notes, field_view}
use Rattle.arrow_types.specs.declared.field.Encoding.{Encoding}
use Rattle.arrow_meta_writer.specs.Appends.{after_encoding, laid_encoding}
use Rattle.arrow_meta_writer.specs.Appends.{field_node, head_cells, children_cells}
use Rattle.arrow_meta_writer.specs.Layouts.{type_cells}
use Rattle.arrow_meta_writer.specs.Writable.{HasTextZone, HasLongId}
use Rattle.arrow_meta_writer.proofs.Exact.{slots_there, table_fits}
use Rattle.arrow_meta_writer.proofs.FieldParts.{field_name, field_tag, field_encoding}
use Rattle.arrow_meta_writer.proofs.FieldSteps.{head_fits, named, typed}
use Rattle.arrow_meta_writer.proofs.FieldSteps.{type_room, encoding_room}
use Rattle.arrow_meta_writer.proofs.WithEncoding.{encoding_written}
use Rattle.arrow_meta_writer.proofs.fields.write_field_head.Goals as goal

pub field_slots-slots-requires : goal.field_slots-slots-requires
field_slots-slots-requires c =
    let node = field_node (field_view c.args.field.now) (field_notes c.args.field.now) in
    record { room = subst (λ (n : ℕ). after n node ≤ 1073741824) (sym c.place.ensures) c.requires.room }

pub table-requires-clause-fits : goal.table-requires-clause-fits
table-requires-clause-fits c =
    let p = length c.args.writer.now in
    let f = field_view c.args.field.now in
    let n = field_notes c.args.field.now in
    let cs = head_cells f n in
    let ss = take c.field_fields.result c.field_slots-slots.result in
    let cut : ss ≡ slots (cells_place c.place.result cs) cs = ap (λ (k : ℕ). take k c.field_slots-slots.result) c.field_fields.ensures.count ∙ c.field_slots-slots.ensures.slots in
    table_fits p ss cs (slots_there c.place.result p ss cs c.place.ensures cut) (head_fits f n) c.requires.room

pub write_type-requires : goal.write_type-requires
write_type-requires c =
    let old = c.args.writer.now in
    let f = field_view c.args.field.now in
    let n = field_notes c.args.field.now in
    let cs = head_cells f n in
    let ss = take c.field_fields.result c.field_slots-slots.result in
    let cut : ss ≡ slots (cells_place c.place.result cs) cs = ap (λ (k : ℕ). take k c.field_slots-slots.result) c.field_fields.ensures.count ∙ c.field_slots-slots.ensures.slots in
    let same = slots_there c.place.result (length old) ss cs c.place.ensures cut in
    let t = c.table.new.self in
    let x = c.text.new.self in
    let wrote_name = c.in_ok-text.ensures.ok ∙ ap (λ (s : List ℕ). t ++ laid (length t) (text s)) (c.deref.ensures ∙ field_name c.args.field.now) in
    let begins = named old t x f n (begun old t ss cs c.in_ok-table.ensures.ok same) wrote_name in
    record { room = subst (λ (y : TypeId). after (length x) (table (type_cells y)) ≤ 1073741824) (sym (field_tag c.args.field.now)) (type_room old x f n begins c.requires.room) }

pub write_encoding-requires : goal.write_encoding-requires
write_encoding-requires c =
    let old = c.args.writer.now in
    let f = field_view c.args.field.now in
    let n = field_notes c.args.field.now in
    let cs = head_cells f n in
    let ss = take c.field_fields.result c.field_slots-slots.result in
    let cut : ss ≡ slots (cells_place c.place.result cs) cs = ap (λ (k : ℕ). take k c.field_slots-slots.result) c.field_fields.ensures.count ∙ c.field_slots-slots.ensures.slots in
    let same = slots_there c.place.result (length old) ss cs c.place.ensures cut in
    let t = c.table.new.self in
    let x = c.text.new.self in
    let w = c.write_type.new.writer in
    let wrote_name = c.in_ok-text.ensures.ok ∙ ap (λ (s : List ℕ). t ++ laid (length t) (text s)) (c.deref.ensures ∙ field_name c.args.field.now) in
    let begins = named old t x f n (begun old t ss cs c.in_ok-table.ensures.ok same) wrote_name in
    let wrote_type = c.in_ok-write_type.ensures.bytes ∙ ap (λ (y : TypeId). x ++ laid (length x) (table (type_cells y))) (field_tag c.args.field.now) in
    let left = typed old x w f n begins wrote_type in
    record { room = subst (λ (e : Option Encoding). after_encoding (length w) e ≤ 1073741824) (sym (field_encoding c.args.field.now)) (encoding_room old w f n left c.requires.room) }

pub returns-clause-bytes : goal.returns-clause-bytes
returns-clause-bytes c =
    let old = c.args.writer.now in
    let f = field_view c.args.field.now in
    let n = field_notes c.args.field.now in
    let cs = head_cells f n in
    let ss = take c.field_fields.result c.field_slots-slots.result in
    let cut : ss ≡ slots (cells_place c.place.result cs) cs = ap (λ (k : ℕ). take k c.field_slots-slots.result) c.field_fields.ensures.count ∙ c.field_slots-slots.ensures.slots in
    let same = slots_there c.place.result (length old) ss cs c.place.ensures cut in
    let t = c.table.new.self in
    let x = c.text.new.self in
    let w = c.write_type.new.writer in
    let wrote_name = c.in_ok-text.ensures.ok ∙ ap (λ (s : List ℕ). t ++ laid (length t) (text s)) (c.deref.ensures ∙ field_name c.args.field.now) in
    let begins = named old t x f n (begun old t ss cs c.in_ok-table.ensures.ok same) wrote_name in
    let wrote_type = c.in_ok-write_type.ensures.bytes ∙ ap (λ (y : TypeId). x ++ laid (length x) (table (type_cells y))) (field_tag c.args.field.now) in
    let left = typed old x w f n begins wrote_type in
    let wrote_encoding = c.in_ok-write_encoding.ensures.bytes ∙ ap (λ (e : Option Encoding). w ++ laid_encoding (length w) e) (field_encoding c.args.field.now) in
    encoding_written old w c.write_encoding.new.writer f.head.encoding (children_cells f n) (field_node f n) left wrote_encoding

pub returns-clause-typed : goal.returns-clause-typed
returns-clause-typed c =
    let f = c.args.field.now in
    record {
      name = ap is_utf8 (sym (field_name f) ∙ sym c.deref.ensures) ∙ is_utf8-from_IsUtf8 _ c.deref.utf8;
      zone = subst HasTextZone (field_tag f) c.in_ok-write_type.ensures.typed;
      id = subst HasLongId (field_encoding f) c.in_ok-write_encoding.ensures.typed;
      fits = c.field_slots-slots.ensures.fits;
    }
