-- The tables of a vector of fields, appended one by one, after the offsets to them.
use Rattle.std.proofs.Common.{◌≡◌, ℕ, suc, ◌+◌, ◌≤◌, ◌<◌, List, ◌++◌, length}
use Rattle.std.proofs.Common.{drop, get_or, sym, ap, subst, ◌∙◌, arith}
use Rattle.std.proofs.lemmas.List.{append-nil, drop_all}
use Rattle.arrow_flatbuf.specs.Nodes.{count, Node, Nodes, none, more, after, laid, laid_cells}
use Rattle.arrow_flatbuf.specs.Nodes.{tables}
use Rattle.arrow_flatbuf.proofs.Laid.{ahead_all}
use Rattle.arrow_flatbuf.proofs.Left.{stepped}
use Rattle.arrow_flatbuf.proofs.Rows.{TablesLeft, tables_end, table_step}
use Rattle.arrow_types.proofs.Fields.{fields_from}
use Rattle.arrow_types.proofs.Noted.{notes_from}
use Rattle.arrow_types.specs.Field as columns
use Rattle.arrow_types.specs.Field.{FieldShape}
use Rattle.arrow_types.specs.Notes.{FieldNotes}
use Rattle.arrow_types.specs.View.{field_notes, field_view, fields_view, notes_view}
use Rattle.arrow_types.specs.declared.field.Field.{Field}
use Rattle.arrow_meta_writer.specs.Appends.{Begins, children_cells, field_node, head_cells}
use Rattle.arrow_meta_writer.specs.Layouts.{field_nodes, metadata_cells}
use Rattle.arrow_meta_writer.specs.Writable.{IsField, AreFields, AreNotesOf, AreNotedFields}
use Rattle.arrow_meta_writer.proofs.WithEncoding.{last_count}

-- the tables of some fields
abbrev pub nodes_of : List Field → Nodes
nodes_of fs = field_nodes (fields_view fs) (notes_view fs)

-- the tables of the fields from an index on
abbrev pub nodes_from : List Field → ℕ → Nodes
nodes_from fs i = nodes_of (drop i fs)

-- the table of a field
abbrev pub node_of : Field → Node
node_of f = field_node (field_view f) (field_notes f)

pub nodes_more : (fs : List Field) (i : ℕ) (f : Field) → i < length fs → f ≡ get_or fs i f → nodes_from fs i ≡ more (node_of f) (nodes_from fs (i + 1))
nodes_more fs i f h is = λ j. field_nodes (fields_from fs i f h is j) (notes_from fs i f h is j)

pub nodes_none : (fs : List Field) (i : ℕ) → length fs ≤ i → nodes_from fs i ≡ none
nodes_none fs i h = ap nodes_of (drop_all i fs h)

-- a field is written by its head, then its children, and then its metadata
pub field_written : (now half below next : List ℕ) (f : Field) → Begins now (children_cells (field_view f) (field_notes f)) (node_of f) half → below ≡ half ++ laid (length half) (tables (field_nodes (field_view f).children (field_notes f).below))
    → next ≡ below ++ laid_cells (length below) (metadata_cells (field_notes f).pairs) → next ≡ now ++ laid (length now) (node_of f)
field_written now half below next f h e g =
    g ∙ stepped now half below (tables (field_nodes (field_view f).children (field_notes f).below)) (metadata_cells (field_notes f).pairs) (node_of f) h e

-- there is room for it
pub room_here : (old now : List ℕ) (fs : List Field) (i : ℕ) (f : Field) (whole : Nodes) → TablesLeft old now (nodes_from fs i) whole → i < length fs → f ≡ get_or fs i f → after (length old) (tables whole) ≤ 1073741824
    → after (length now) (node_of f) ≤ 1073741824
room_here old now fs i f whole left h is room =
    let more_left = subst (λ ns. TablesLeft old now ns whole) (nodes_more fs i f h is) left in
    omega (arith, tables_end old now (more (node_of f) (nodes_from fs (i + 1))) whole more_left, ahead_all (after (length now) (node_of f)) (nodes_from fs (i + 1)), room)

pub fields_step : (old now next : List ℕ) (fs : List Field) (i : ℕ) (f : Field) (whole : Nodes) → TablesLeft old now (nodes_from fs i) whole → i < length fs → f ≡ get_or fs i f → next ≡ now ++ laid (length now) (node_of f)
    → TablesLeft old next (nodes_from fs (i + 1)) whole
fields_step old now next fs i f whole left h is e =
    table_step old now next (node_of f) (nodes_from fs (i + 1)) whole (subst (λ ns. TablesLeft old now ns whole) (nodes_more fs i f h is) left) e

pub fields_last : (old now : List ℕ) (fs : List Field) (i : ℕ) (whole : Nodes) → TablesLeft old now (nodes_from fs i) whole → length fs ≤ i → now ≡ old ++ laid (length old) (tables whole)
fields_last old now fs i whole left h = sym (append-nil now) ∙ subst (λ ns. TablesLeft old now ns whole) (nodes_none fs i h) left

pub fields_typed : (fs : List Field) (i : ℕ) (f : Field) → i < length fs → f ≡ get_or fs i f → IsField (field_view f).head (field_view f).children → AreNotedFields (field_view f).children (field_notes f).below
    → AreNotedFields (fields_view (drop (i + 1) fs)) (notes_view (drop (i + 1) fs)) → AreNotedFields (fields_view (drop i fs)) (notes_view (drop i fs))
fields_typed fs i f h is here below later = record {
  fields_are = subst AreFields (sym (fields_from fs i f h is)) (here, below.fields_are, later.fields_are);
  notes_are = subst (λ x. AreNotesOf x (notes_view (drop i fs))) (sym (fields_from fs i f h is))
      (subst (AreNotesOf (columns.more (field_view f).head (field_view f).children (fields_view (drop (i + 1) fs)))) (sym (notes_from fs i f h is)) (below.notes_are, later.notes_are));
}

pub none_typed : (fs : List Field) (i : ℕ) → length fs ≤ i → AreNotedFields (fields_view (drop i fs)) (notes_view (drop i fs))
none_typed fs i h = subst (λ gs. AreNotedFields (fields_view gs) (notes_view gs)) (sym (drop_all i fs h)) (record { fields_are = tt; notes_are = tt })

-- the number of fields of a field's table
pub field_count : (f : FieldShape) (n : FieldNotes) → count (head_cells f n) ≡ suc (suc (suc (suc (suc (suc (count (metadata_cells n.pairs)))))))
field_count f n = ap (λ (k : ℕ). suc (suc (suc (suc k)))) (last_count f.head.encoding (children_cells f n))
