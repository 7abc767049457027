-- The fields of a row of trees, one by one: only a Field table is a field.
use Rattle.std.proofs.Common.{◌≡◌, ◌<◌, List, [], ◌∷◌, ◌++◌, length, true, refl, sym, ap, ◌∙◌, true≢false, arith}
use Rattle.std.proofs.lemmas.List.{length-append}
use Rattle.arrow_types.specs.Field.{FieldTree, none, more, FieldShape, fields_of, width}
use Rattle.arrow_types.specs.Notes.{FieldNotes, notes_of}
use Rattle.arrow_types.specs.Schema.{has_encoding}
use Rattle.arrow_types.specs.declared.type_set.TypeSet.{TypeSet}
use Rattle.arrow_meta_tree.specs.declared.kinds.TableKind.TheVariants as kinds
use Rattle.arrow_meta_tree.specs.declared.message_tree.Tree.{Tree as Built}
use Rattle.arrow_meta_schema.specs.SchemaMeaning.{with_field, fields_from, field_of, with_notes, notes_from, notes_of_field}
use Rattle.arrow_meta_tree.specs.Trees.{Tree, Trees, leaf, table, tables}
use Rattle.arrow_meta_tree.specs.Views.{plain, plain_all}

-- the field of a Field table, none of anything else
abbrev pub shape_in : Tree → List FieldShape
shape_in (leaf x) = []
shape_in (table (kinds.Field types) xs) = field_of xs ∷ []
shape_in (table kind xs) = []
shape_in (tables xs) = []

-- the fields of those of the trees that are Field tables
abbrev pub shapes_in : List Built → List FieldShape
shapes_in [] = []
shapes_in (t ∷ ts) = shape_in (plain t) ++ shapes_in ts

before : (x : Tree) (ss : List FieldShape) → fields_of (shape_in x ++ ss) ≡ with_field x (fields_of ss)
before (leaf x) ss = refl
before (table (kinds.Field types) xs) ss = refl
before (table kind xs) ss = refl
before (tables xs) ss = refl

-- in order they are the fields of the row
pub shapes_from : (ts : List Built) → fields_of (shapes_in ts) ≡ fields_from (plain_all ts)
shapes_from [] = refl
shapes_from (t ∷ ts) = before (plain t) (shapes_in ts) ∙ ap (with_field (plain t)) (shapes_from ts)

-- the custom metadata of the field of a Field table, none of anything else
abbrev pub noted_shape : Tree → List FieldNotes
noted_shape (leaf x) = []
noted_shape (table (kinds.Field types) xs) = notes_of_field xs ∷ []
noted_shape (table kind xs) = []
noted_shape (tables xs) = []

-- the custom metadata of the fields of those of the trees that are Field tables
abbrev pub noted_shapes : List Built → List FieldNotes
noted_shapes [] = []
noted_shapes (t ∷ ts) = noted_shape (plain t) ++ noted_shapes ts

before_notes : (x : Tree) (ns : List FieldNotes) → notes_of (noted_shape x ++ ns) ≡ with_notes x (notes_of ns)
before_notes (leaf x) ns = refl
before_notes (table (kinds.Field types) xs) ns = refl
before_notes (table kind xs) ns = refl
before_notes (tables xs) ns = refl

-- in order they are the custom metadata of the row
pub noted_from : (ts : List Built) → notes_of (noted_shapes ts) ≡ notes_from (plain_all ts)
noted_from [] = refl
noted_from (t ∷ ts) = before_notes (plain t) (noted_shapes ts) ∙ ap (with_notes (plain t)) (noted_from ts)

-- the width of the fields of a list is the list's length
width-fields_of : (ss : List FieldShape) → width (fields_of ss) ≡ length ss
width-fields_of [] = refl
width-fields_of (s ∷ ss) = omega (arith, width-fields_of ss)

-- a row in which a Field table follows others has a field
pub one_field : (ss : List FieldShape) (x : Built) (types : TypeSet) (xs : Trees) (rest ts : List Built) → plain x ≡ table (kinds.Field types) xs
    → ss ++ shapes_in (x ∷ rest) ≡ shapes_in ts → 0 < width (fields_from (plain_all ts))
one_field ss x types xs rest ts is all =
    let here : shapes_in (x ∷ rest) ≡ field_of xs ∷ shapes_in rest = ap (λ y. shape_in y ++ shapes_in rest) is in
    omega (arith, ap width (shapes_from ts), width-fields_of (shapes_in ts), ap length all, length-append ss (shapes_in (x ∷ rest)), ap length here)

-- if one of some fields is dictionary-encoded, there is at least one field
pub encoded_width : (fields : FieldTree) → has_encoding fields ≡ true → 0 < width fields
encoded_width none h = absurd (true≢false (sym h))
encoded_width (more head children rest) h = omega arith
