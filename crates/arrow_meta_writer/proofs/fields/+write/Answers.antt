use Rattle.std.proofs.Common.{◌≡◌, ◌≤◌, ◌++◌, List, length, arith, sym, ap, subst, ◌∙◌}
use Rattle.arrow_flatbuf.specs.Nodes.{laid, laid_cells, after, after_cells, tables}
use Rattle.arrow_flatbuf.proofs.Laid.{ahead_cells}
use Rattle.arrow_flatbuf.proofs.Left.{left_ends, stepped}
use Rattle.arrow_types.specs.Field.{count}
use Rattle.arrow_types.specs.Notes.{KeyValue, pairs_view}
use Rattle.arrow_types.specs.View.{field_notes, field_view, notes_view}
use Rattle.arrow_types.proofs.Fields.{fewer_below}
use Rattle.arrow_meta_writer.specs.Appends.{children_cells}
use Rattle.arrow_meta_writer.specs.Layouts.{field_nodes, metadata_cells}
use Rattle.arrow_meta_writer.specs.Writable.{AreFields, AreNotesOf, AreNotedFields}
use Rattle.arrow_meta_writer.proofs.FieldParts.{field_pairs}
use Rattle.arrow_meta_writer.proofs.FieldRows.{field_written, room_here, fields_step, fields_last}
use Rattle.arrow_meta_writer.proofs.FieldRows.{fields_typed, none_typed, node_of, nodes_of}
use Rattle.arrow_meta_writer.proofs.Noting.{Held}
use Rattle.arrow_meta_writer.proofs.fields.+write.Goals as goal

pub loop-field-init : goal.loop-field-init
loop-field-init t c = record { left = c.in_ok-write_offsets.ensures.bytes; typed = λ all. all }

pub write_field_head-requires : goal.write_field_head-requires
write_field_head-requires t c =
    let fs = c.args.fields.now in
    record { room = room_here c.args.writer.now c.loop-field.writer fs c.loop-field.field-index c.field-item.result (nodes_of fs) c.loop-field.invariant.left c.loop-field-test.true c.field-item.is c.requires.room }

pub write_fields-requires : goal.write_fields-requires
write_fields-requires t c =
    let fs = c.args.fields.now in
    let f = c.field-item.result in
    let fewer = fewer_below fs c.loop-field.field-index f c.loop-field-test.true c.field-item.is in
    let half = c.write_field_head.new.writer in
    let rest = children_cells (field_view f) (field_notes f) in
    let room = room_here c.args.writer.now c.loop-field.writer fs c.loop-field.field-index f (nodes_of fs) c.loop-field.invariant.left c.loop-field-test.true c.field-item.is c.requires.room in
    let ends = left_ends c.loop-field.writer half rest (node_of f) c.in_ok-write_field_head.ensures.bytes in
    let below = after (length half) (tables (field_nodes (field_view f).children (field_notes f).below)) in
    let same : after (length half) (tables (nodes_of c.children.result.now)) ≡ below =
    λ i. after (length half) (tables (field_nodes (c.children.ensures.fields i) (c.children.ensures.notes i))) in
    (omega (arith, c.decreases, fewer, ap count c.children.ensures.fields), omega (arith, same, ends, ahead_cells below (metadata_cells (field_notes f).pairs), room))

pub write_metadata-requires : goal.write_metadata-requires
write_metadata-requires t c =
    let fs = c.args.fields.now in
    let f = c.field-item.result in
    let half = c.write_field_head.new.writer in
    let below = c.write_fields.new.writer in
    let ps = (field_notes f).pairs in
    let children = tables (field_nodes (field_view f).children (field_notes f).below) in
    let room = room_here c.args.writer.now c.loop-field.writer fs c.loop-field.field-index f (nodes_of fs) c.loop-field.invariant.left c.loop-field-test.true c.field-item.is c.requires.room in
    let wrote : below ≡ half ++ laid (length half) children =
    c.in_ok-write_fields.ensures.bytes ∙ (λ i. half ++ laid (length half) (tables (field_nodes (c.children.ensures.fields i) (c.children.ensures.notes i)))) in
    let left = stepped c.loop-field.writer half below children (metadata_cells ps) (node_of f) c.in_ok-write_field_head.ensures.bytes wrote in
    let ends = left_ends c.loop-field.writer below (metadata_cells ps) (node_of f) left in
    let same : metadata_cells (pairs_view c.deref.result.now) ≡ metadata_cells ps =
    ap (λ (xs : List Held). metadata_cells (pairs_view xs)) c.deref.ensures.value ∙ ap metadata_cells (field_pairs f) in
    record { room = subst (λ cs. after_cells (length below) cs ≤ 1073741824) (sym same) (omega (arith, ends, room)) }

pub loop-field-preserved : goal.loop-field-preserved
loop-field-preserved t c =
    let fs = c.args.fields.now in
    let f = c.field-item.result in
    let i = c.loop-field.field-index in
    let ps = (field_notes f).pairs in
    let half = c.write_field_head.new.writer in
    let below = c.write_fields.new.writer in
    let next = c.write_metadata.new.writer in
    let wrote : below ≡ half ++ laid (length half) (tables (field_nodes (field_view f).children (field_notes f).below)) =
    c.in_ok-write_fields.ensures.bytes ∙ (λ j. half ++ laid (length half) (tables (field_nodes (c.children.ensures.fields j) (c.children.ensures.notes j)))) in
    let noted : next ≡ below ++ laid_cells (length below) (metadata_cells ps) =
    c.in_ok-write_metadata.ensures
    ∙ ap (λ (xs : List Held). below ++ laid_cells (length below) (metadata_cells (pairs_view xs))) c.deref.ensures.value
    ∙ ap (λ (xs : List KeyValue). below ++ laid_cells (length below) (metadata_cells xs)) (field_pairs f) in
    let field = field_written c.loop-field.writer half below next f c.in_ok-write_field_head.ensures.bytes wrote noted in
    let children : AreNotedFields (field_view f).children (field_notes f).below = record {
      fields_are = subst AreFields c.children.ensures.fields c.in_ok-write_fields.ensures.typed.fields_are;
      notes_are = subst (AreNotesOf (field_view f).children) c.children.ensures.notes
          (subst (λ fields. AreNotesOf fields (notes_view c.children.result.now)) c.children.ensures.fields c.in_ok-write_fields.ensures.typed.notes_are);
    } in
    record {
      left = fields_step c.args.writer.now c.loop-field.writer next fs i f (nodes_of fs) c.loop-field.invariant.left c.loop-field-test.true c.field-item.is field;
      typed = λ later. c.loop-field.invariant.typed (fields_typed fs i f c.loop-field-test.true c.field-item.is c.in_ok-write_field_head.ensures.typed children later);
    }

pub returns-clause-bytes : goal.returns-clause-bytes
returns-clause-bytes t c = fields_last c.args.writer.now c.loop-field.writer c.args.fields.now c.loop-field.field-index (nodes_of c.args.fields.now) c.loop-field.invariant.left c.loop-field-test.false

pub returns-clause-typed : goal.returns-clause-typed
returns-clause-typed t c = c.loop-field.invariant.typed (none_typed c.args.fields.now c.loop-field.field-index c.loop-field-test.false)
