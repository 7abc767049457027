-- A field's table is written, then its name, its type and its encoding.
use Rattle.std.proofs.Common.{◌≡◌, ℕ, ◌≤◌, List, ◌++◌, length, arith}
use Rattle.arrow_flatbuf.specs.declared.layout.Width.TheVariants.{One}
use Rattle.arrow_flatbuf.specs.Nodes.{TableFields, scalar, offset, laid, after}
use Rattle.arrow_flatbuf.specs.Nodes.{table, text, OwnFit}
use Rattle.arrow_flatbuf.proofs.Laid.{ahead_cells}
use Rattle.arrow_flatbuf.proofs.Left.{stepped, left_ends}
use Rattle.arrow_types.specs.Field.{FieldShape}
use Rattle.arrow_types.specs.Notes.{FieldNotes}
use Rattle.arrow_meta_writer.specs.Appends.{Begins, after_encoding, field_node}
use Rattle.arrow_meta_writer.specs.Appends.{head_cells, children_cells}
use Rattle.arrow_meta_writer.specs.Layouts.{flag, tag_code, type_cells, with_encoding}
use Rattle.arrow_meta_writer.proofs.Fitting.{code_fits}
use Rattle.arrow_meta_writer.proofs.TypeRows.{flag_fits}
use Rattle.arrow_meta_writer.proofs.Noting.{metadata_fit}
use Rattle.arrow_meta_writer.proofs.WithEncoding.{children_after, last_fit}

-- the content that belongs to a field's table after its type, and after its name
abbrev pub after_type : FieldShape → FieldNotes → TableFields
after_type f n = with_encoding f.head.encoding (children_cells f n)

abbrev pub after_name : FieldShape → FieldNotes → TableFields
after_name f n = offset (table (type_cells f.head.tag)) (after_type f n)

-- the numbers of a field's table fit
pub head_fits : (f : FieldShape) (n : FieldNotes) → OwnFit (head_cells f n)
head_fits f n =
    (omega (arith, flag_fits f.head.nullable), (omega (arith, code_fits f.head.tag), last_fit f.head.encoding (children_cells f n) (metadata_fit n.pairs)))

-- the name is written
pub named : (old now next : List ℕ) (f : FieldShape) (n : FieldNotes) → Begins old (head_cells f n) (field_node f n) now → next ≡ now ++ laid (length now) (text f.head.name) → Begins old (after_name f n) (field_node f n) next
named old now next f n begins wrote =
    stepped old now next (text f.head.name) (scalar One (flag f.head.nullable) (scalar One (tag_code f.head.tag) (after_name f n))) (field_node f n) begins wrote

-- the type is written
pub typed : (old now next : List ℕ) (f : FieldShape) (n : FieldNotes) → Begins old (after_name f n) (field_node f n) now → next ≡ now ++ laid (length now) (table (type_cells f.head.tag)) → Begins old (after_type f n) (field_node f n) next
typed old now next f n begins wrote = stepped old now next (table (type_cells f.head.tag)) (after_type f n) (field_node f n) begins wrote

-- there is room for the type
pub type_room : (old now : List ℕ) (f : FieldShape) (n : FieldNotes) → Begins old (after_name f n) (field_node f n) now → after (length old) (field_node f n) ≤ 1073741824 → after (length now) (table (type_cells f.head.tag)) ≤ 1073741824
type_room old now f n begins room =
    omega (arith, left_ends old now (after_name f n) (field_node f n) begins, ahead_cells (after (length now) (table (type_cells f.head.tag))) (after_type f n), room)

-- there is room for the encoding
pub encoding_room : (old now : List ℕ) (f : FieldShape) (n : FieldNotes) → Begins old (after_type f n) (field_node f n) now → after (length old) (field_node f n) ≤ 1073741824 → after_encoding (length now) f.head.encoding ≤ 1073741824
encoding_room old now f n begins room =
    let next = after_encoding (length now) f.head.encoding in
    omega (arith, left_ends old now (after_type f n) (field_node f n) begins, children_after (length now) f.head.encoding (children_cells f n), ahead_cells next (children_cells f n), room)
