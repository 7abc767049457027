-- What is appended to the written bytes.
use Rattle.std.specs.Prelude.{◌≡◌, ◌≤◌, ℕ, List, [], ◌++◌, length, Option, Some, None}
use Rattle.arrow_flatbuf.specs.Layout.{table_place}
use Rattle.arrow_flatbuf.specs.Nodes.{Node, TableFields, after, laid, laid_cells, table, tables, offset}
use Rattle.arrow_flatbuf.specs.declared.layout.FieldValue.{FieldValue}
use Rattle.arrow_flatbuf.specs.declared.layout.FieldValue.TheVariants.{Absent, Target}
use Rattle.arrow_types.specs.Field.{FieldShape}
use Rattle.arrow_types.specs.Notes.{FieldNotes}
use Rattle.arrow_types.specs.declared.field.Encoding.{Encoding}
use Rattle.arrow_meta_writer.specs.Layouts.{encoding_cells, field_cells, field_nodes, metadata_cells}

-- There is room for a node: with it the bytes are no more than metadata can be.
abbrev pub HasRoom : List ℕ → Node → Type 0
HasRoom bytes x = after (length bytes) x ≤ 1073741824

-- A node was appended, with all that belongs to it.
abbrev pub Appends : List ℕ → Node → List ℕ → Type 0
Appends old x new = new ≡ old ++ laid (length old) x

-- A node was begun: the content that belongs to these of its fields is still to be appended.
abbrev pub Begins : List ℕ → TableFields → Node → List ℕ → Type 0
Begins old rest x new = new ++ laid_cells (length new) rest ≡ old ++ laid (length old) x

-- the fields of a field's table
abbrev pub head_cells : FieldShape → FieldNotes → TableFields
head_cells f n = field_cells f.head n.pairs (field_nodes f.children n.below)

-- a field, with all that belongs to it
abbrev pub field_node : FieldShape → FieldNotes → Node
field_node f n = table (head_cells f n)

-- the last fields of a field's table: its children, and its metadata
abbrev pub children_cells : FieldShape → FieldNotes → TableFields
children_cells f n = offset (tables (field_nodes f.children n.below)) (metadata_cells n.pairs)

-- the field of a field's table that names an encoding laid out from position q on
abbrev pub encoding_slot : ℕ → Option Encoding → FieldValue
encoding_slot q None = Absent
encoding_slot q (Some e) = Target (table_place q 4)

-- the position where the tables of an encoding end
abbrev pub after_encoding : ℕ → Option Encoding → ℕ
after_encoding q None = q
after_encoding q (Some e) = after q (table (encoding_cells e))

-- the bytes of the tables of an encoding
abbrev pub laid_encoding : ℕ → Option Encoding → List ℕ
laid_encoding q None = []
laid_encoding q (Some e) = laid q (table (encoding_cells e))
