-- The conditions under which a single table is invalid in every message, and whether a tree holds such a table.
use Rattle.std.specs.Prelude.{ℕ, Bool, true, false, ◌||◌, ◌&&◌, not, Option, Some, None, is_some, ◌==◌}
use Rattle.std.specs.Option.{is_none}
use Rattle.arrow_types.specs.Field.{FieldTree, width}
use Rattle.arrow_types.specs.Schema.{are_entries}
use Rattle.arrow_meta_tree.specs.declared.kinds.TableKind.{TableKind}
use Rattle.arrow_meta_tree.specs.declared.kinds.TableKind.TheVariants as kinds
use Rattle.arrow_meta_tree.specs.declared.codes.TypeCode.{TypeCode}
use Rattle.arrow_meta_tree.specs.declared.codes.TypeCode.TheVariants as codes
use Rattle.arrow_meta_schema.specs.declared.conditions.Test.{Test}
use Rattle.arrow_meta_schema.specs.declared.conditions.Test.TheVariants as tests
use Rattle.arrow_meta_tree.specs.Types.{type_row, type_code, taken, has_children}
use Rattle.arrow_meta_tree.specs.Kinds.{type_table}
use Rattle.arrow_meta_tree.specs.Parts.{nth, number_at, is_table}
use Rattle.arrow_meta_schema.specs.SchemaMeaning.{fields_at, fields_in}
use Rattle.arrow_meta_tree.specs.Slots as slots
use Rattle.arrow_meta_tree.specs.Trees.{Tree, leaf, table, tables, Trees, none, more}

abbrev mutual
  -- whether the test holds of a table of the tree, at any depth
  pub any : (TableKind → Trees → Bool) → Tree → Bool
  any test (leaf x) = false
  any test (table kind xs) = test kind xs || any_in test xs
  any test (tables xs) = any_in test xs

  -- whether the test holds of a table of one of the trees, at any depth
  pub any_in : (TableKind → Trees → Bool) → Trees → Bool
  any_in test none = false
  any_in test (more x xs) = any test x || any_in test xs

-- Metadata: the table that a type of the set has, or the data of a dictionary batch, is absent.
abbrev pub lacks_table : TableKind → Trees → Bool
lacks_table (kinds.Message types) xs = false
lacks_table (kinds.Schema types) xs = false
lacks_table (kinds.Field types) xs = is_some (type_table types (number_at slots.field_type_type 0 xs)) && not (is_table (nth slots.field_type xs))
lacks_table kinds.DictionaryEncoding xs = false
lacks_table kinds.RecordBatch xs = false
lacks_table kinds.DictionaryBatch xs = not (is_table (nth slots.dictionary_batch_data xs))
lacks_table (kinds.Type code) xs = false
lacks_table kinds.KeyValue xs = false

-- Unsupported: an endianness other than Little, a type outside of the set, a dictionary kind other than DenseArray.
abbrev pub is_unsupported : TableKind → Trees → Bool
is_unsupported (kinds.Message types) xs = false
is_unsupported (kinds.Schema types) xs = not (number_at slots.schema_endianness 0 xs == 0)
is_unsupported (kinds.Field types) xs = is_none (taken types (type_code (number_at slots.field_type_type 0 xs)))
is_unsupported kinds.DictionaryEncoding xs = not (number_at slots.dictionary_encoding_dictionary_kind 0 xs == 0)
is_unsupported kinds.RecordBatch xs = false
is_unsupported kinds.DictionaryBatch xs = false
is_unsupported (kinds.Type code) xs = false
is_unsupported kinds.KeyValue xs = false

-- A list of each kind and a map have one child, a struct any number, each other type none (Columnar Format, "Physical
-- memory layout"), and a type outside the profile none that is read.
abbrev pub children_fit : Option TypeCode → ℕ → Bool
children_fit None n = n == 0
children_fit (Some code) n = has_children (type_row code).children n

-- The child of a map is a struct of two fields that is not dictionary-encoded (Schema.fbs, table "Map"). For every
-- other type only the number of its children is checked.
abbrev pub entries_fit : Option TypeCode → FieldTree → Bool
entries_fit (Some codes.Map) children = are_entries children
entries_fit code children = true

-- Schema: a width or a unit outside its list, a fixed size that is negative, a time's width that its unit does not
-- have, a decimal's precision or scale that its width does not allow, a number of children that the type does not
-- have, a map's child that cannot be its entries.
abbrev pub is_misfit : TableKind → Trees → Bool
is_misfit (kinds.Message types) xs = false
is_misfit (kinds.Schema types) xs = false
is_misfit (kinds.Field types) xs =
    not (children_fit (type_code (number_at slots.field_type_type 0 xs)) (width (fields_in (nth slots.field_children xs))))
    || not (entries_fit (type_code (number_at slots.field_type_type 0 xs)) (fields_at slots.field_children xs))
is_misfit kinds.DictionaryEncoding xs = false
is_misfit kinds.RecordBatch xs = false
is_misfit kinds.DictionaryBatch xs = false
is_misfit (kinds.Type code) xs = (type_row code).is_misfit xs
is_misfit kinds.KeyValue xs = false

-- the condition that a test of the program checks
abbrev pub finds : Test → TableKind → Trees → Bool
finds tests.LacksTable = lacks_table
finds tests.Unsupported = is_unsupported
finds tests.Misfit = is_misfit
