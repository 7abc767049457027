use Rattle.arrow_flatbuf.proofs.Rows.{HeadsLeft}
use Rattle.arrow_meta_writer.proofs.FieldRows.{nodes_from, nodes_of}
use Rattle.arrow_meta_writer.proofs.fields.write_offsets.Given as goal

-- the bytes so far and the remaining offsets are all offsets
abbrev pub invariant-loop-field : goal.invariant-loop-field
invariant-loop-field l = HeadsLeft l.fn.writer l.writer l.end (nodes_from l.fields l.field-index) (nodes_of l.fields)
