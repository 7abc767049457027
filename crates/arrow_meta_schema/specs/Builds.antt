-- The results of building types and fields.
use Rattle.std.specs.Prelude.{◌≡◌, ℕ, ◌+◌, Bool, true, not, Result, Ok, Err, Option, List, length, Vec}
use Rattle.std.specs.declared.alloc.Global.{Global}
use Rattle.arrow_types.specs.DataType.{TypeId}
use Rattle.arrow_types.specs.Field as columns
use Rattle.arrow_types.specs.Field.{FieldTree, TypeShape}
use Rattle.arrow_types.specs.Notes.{Notes}
use Rattle.arrow_types.specs.View.{field_view, fields_view, type_view, field_notes, notes_view, type_notes}
use Rattle.arrow_types.specs.declared.field.DataType.{DataType}
use Rattle.arrow_types.specs.declared.field.Field.{Field}
use Rattle.arrow_types.specs.declared.type_set.TypeSet.TheVariants.{All}
use Rattle.arrow_meta_tree.specs.declared.kinds.TableKind.TheVariants as kinds
use Rattle.arrow_meta_tree.specs.declared.codes.TypeCode.{TypeCode}
use Rattle.arrow_meta_schema.specs.declared.field_fault.FieldFault.{FieldFault}
use Rattle.arrow_meta_schema.specs.declared.field_fault.FieldFault.TheVariants.{Misfit, Memory}
use Rattle.arrow_meta_schema.specs.Conditions.{any, is_misfit, children_fit}
use Rattle.arrow_meta_schema.specs.SchemaMeaning.{field_of, tag_by, notes_of_field}
use Rattle.arrow_meta_tree.specs.Trees.{Tree, leaf, table, tables, Trees, none, more}

-- What a fault of building implies for whether a tree is a misfit: `Memory` implies nothing.
abbrev pub Refuses : FieldFault → Bool → Type 0
Refuses Misfit misfit = misfit ≡ true
Refuses Memory misfit = Unit {0}

-- a type without fields below it
abbrev pub leaf_type : TypeId → TypeShape
leaf_type tag = record { tag = tag; children = columns.none }

-- The field was built that a Field table with these fields describes, or the table is a misfit, whatever the set of
-- types.
abbrev pub Builds : Result Field FieldFault → Trees → Type 0
Builds (Ok f) xs = (field_view f ≡ field_of xs) × (field_notes f ≡ notes_of_field xs)
Builds (Err e) xs = Refuses e (any is_misfit (table (kinds.Field All) xs))

-- These fields were built, with this custom metadata, or there is a misfit.
abbrev pub BuildsAll : Result (Vec Field Global) FieldFault → FieldTree → Notes → Bool → Type 0
BuildsAll (Ok v) fields notes misfit = (fields_view v.items ≡ fields) × (notes_view v.items ≡ notes)
BuildsAll (Err e) fields notes misfit = Refuses e misfit

-- The type of a code was built, or the number of children does not fit it.
abbrev pub BuildsType : Result DataType FieldFault → Option TypeCode → Trees → List Field → Type 0
BuildsType (Ok t) code xs children =
    (type_view t ≡ record { tag = tag_by code xs; children = fields_view children }) × (type_notes t ≡ notes_view children)
BuildsType (Err e) code xs children = Refuses e (not (children_fit code (length children)))

-- The measure by which building terminates.
abbrev mutual
  -- how many nodes a tree has, and one more for each tree of its rows
  pub size : Tree → ℕ
  size (leaf x) = 1
  size (table kind xs) = size_all xs + 1
  size (tables xs) = size_all xs + 1

  -- how many nodes a row has, with one more for each of its trees
  pub size_all : Trees → ℕ
  size_all none = 1
  size_all (more x xs) = size x + size_all xs + 1
