use Rattle.std.proofs.Common.{drop}
use Rattle.arrow_types.specs.Field.{count}
use Rattle.arrow_types.specs.View.{fields_view, notes_view}
use Rattle.arrow_meta_writer.specs.Writable.{AreNotedFields}
use Rattle.arrow_flatbuf.proofs.Rows.{TablesLeft}
use Rattle.arrow_meta_writer.proofs.FieldRows.{nodes_from, nodes_of}
use Rattle.arrow_meta_writer.proofs.fields.+write.Given as goal

abbrev pub decreases-write_fields : goal.decreases-write_fields
decreases-write_fields l = count (fields_view l.fields.now)

-- the bytes so far and the tables of the remaining fields are the complete vector
abbrev pub invariant-loop-field : goal.invariant-loop-field
invariant-loop-field l = record {
  left : TablesLeft l.fn.writer l.writer (nodes_from l.fields l.field-index) (nodes_of l.fields);
  typed : AreNotedFields (fields_view (drop l.field-index l.fields)) (notes_view (drop l.field-index l.fields)) → AreNotedFields (fields_view l.fields) (notes_view l.fields);
}
