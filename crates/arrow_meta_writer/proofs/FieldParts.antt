-- A field of the program, piece by piece, and fields one by one.
use Rattle.std.proofs.Common.{◌≡◌, List, length, string_bytes, ◌∙◌, rules, arith}
use Rattle.arrow_flatbuf.specs.Nodes.{count_nodes}
use Rattle.arrow_types.proofs.Fields.{width-fields_view}
use Rattle.arrow_types.specs.Field as columns
use Rattle.arrow_types.specs.Field.{FieldHeader, FieldTree, width}
use Rattle.arrow_types.specs.Notes.{Notes, pairs_view}
use Rattle.arrow_types.specs.View.{field_notes, field_view, fields_view, notes_view, type_view}
use Rattle.arrow_types.specs.declared.field.Field.{Field, the_lemmas}
use Rattle.arrow_meta_writer.specs.Layouts.{field_nodes, first_rest}

pub field_name : (f : Field) → string_bytes f.name ≡ (field_view f).head.name
field_name f = search (rules, the_lemmas)

pub field_nullable : (f : Field) → f.nullable ≡ (field_view f).head.nullable
field_nullable f = search (rules, the_lemmas)

pub field_tag : (f : Field) → (type_view f.data_type).tag ≡ (field_view f).head.tag
field_tag f = search (rules, the_lemmas)

pub field_encoding : (f : Field) → f.dictionary ≡ (field_view f).head.encoding
field_encoding f = search (rules, the_lemmas)

pub field_children : (f : Field) → (type_view f.data_type).children ≡ (field_view f).children
field_children f = search (rules, the_lemmas)

pub field_pairs : (f : Field) → pairs_view f.metadata.items ≡ (field_notes f).pairs
field_pairs f = search (rules, the_lemmas)

-- a vector of fields has as many tables as there are fields
count_fields : (fs : FieldTree) (n : Notes) → count_nodes (field_nodes fs n) ≡ width fs
count_fields columns.none n = omega arith
count_fields (columns.more head children rest) n = omega (arith, count_fields rest (first_rest n))

pub count_all : (fs : List Field) → count_nodes (field_nodes (fields_view fs) (notes_view fs)) ≡ length fs
count_all fs = count_fields (fields_view fs) (notes_view fs) ∙ width-fields_view fs
