-- Where children are found.
use Rattle.std.proofs.Common.{◌≡◌, ◌≤◌, ◌<◌, ℕ, zero, suc, ◌+◌, List, [], ◌∷◌, length, get_or, refl, sym, ap, ◌∙◌, arith, Option, Some, rules}
use Rattle.std.specs.Prelude.{slice_get}
use denote.Param.Weighed.{most}
use Rattle.arrow_types.specs.Field.{FieldTree, none, more, width, TypeShape}
use Rattle.arrow_types.specs.View.{field_view, fields_view, type_view}
use Rattle.arrow_types.specs.declared.field.Encoding.{Encoding}
use Rattle.arrow_types.specs.declared.field.Field.{Field, the_lemmas}
use Rattle.arrow_data.specs.Column.{AreOf, Column, column_size, HasField, HasFields, struct_fields_of, type_of_field}

-- the type of field k of a struct
pub child_typed : (c child : Column) (k : ℕ) (children : List Column) → HasFields c children → HasField c k child → type_of_field c.data_type.children k ≡ Some (child.data_type, child.encoding)
child_typed c child k children fields field = ap (λ f. type_of_field (struct_fields_of f c.data_type.children) k) (sym fields.is_struct) ∙ field.typed

-- the type and the encoding of a field
abbrev pub type_in : Field → TypeShape
type_in f = record { tag = (field_view f).head.tag; children = (field_view f).children }

pub field_typed : (fs : List Field) (k : ℕ) (f : Field) → k < length fs → f ≡ get_or fs k f → type_of_field (fields_view fs) k ≡ Some (type_in f, (field_view f).head.encoding)
field_typed [] k f here is = absurd (omega (arith, here))
field_typed (g ∷ fs) zero f here is = ap pair_in (sym is)
  where
    pair_in : Field → Option (TypeShape × Option Encoding)
    pair_in x = Some (type_in x, (field_view x).head.encoding)
field_typed (g ∷ fs) (suc k) f here is = field_typed fs k f (omega (arith, here)) is

-- there are as many fields as columns
pub as_many : (fields : FieldTree) (cs : List Column) → AreOf fields cs → width fields ≡ length cs
as_many none [] typed = refl
as_many none (c ∷ cs) typed = absurd typed
as_many (more h b rest) [] typed = absurd typed
as_many (more h b rest) (c ∷ cs) typed = omega (arith, as_many rest cs typed.2)

-- the column at an index is found there
pub column_found : (cs : List Column) (k : ℕ) (c : Column) → k < length cs → c ≡ get_or cs k c → slice_get cs k ≡ Some c
column_found [] k c here is = absurd (omega (arith, here))
column_found (d ∷ cs) zero c here is = ap Some (sym is)
column_found (d ∷ cs) (suc k) c here is = column_found cs k c (omega (arith, here)) is

pub found_column : (cs : List Column) (k : ℕ) (c : Column) → slice_get cs k ≡ Some c → (k < length cs) × (c ≡ get_or cs k c)
found_column [] k c is = cc
found_column (d ∷ cs) zero c is = let same : d ≡ c = cc in (omega arith, sym same)
found_column (d ∷ cs) (suc k) c is = let others = found_column cs k c is in (omega (arith, others.0), others.1)

-- a child is smaller than all children
pub child_below : (cs : List Column) (k : ℕ) (c : Column) → k < length cs → c ≡ get_or cs k c → column_size c + 1 ≤ most (λ d. column_size d + 1) cs
child_below [] k c here is = absurd (omega (arith, here))
child_below (d ∷ cs) zero c here is = omega (arith, ap column_size is)
child_below (d ∷ cs) (suc k) c here is = omega (arith, child_below cs k c (omega (arith, here)) is)

-- the type and the encoding of a field are those of its view
pub same_type : (f : Field) → type_view f.data_type ≡ type_in f
same_type f = search (rules, the_lemmas)

pub same_encoding : (f : Field) → f.dictionary ≡ (field_view f).head.encoding
same_encoding f = search (rules, the_lemmas)
