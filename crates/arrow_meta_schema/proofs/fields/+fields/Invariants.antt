use Rattle.std.proofs.Common.{◌≡◌, ◌+◌, ◌≤◌, ◌++◌, true, map}
use Rattle.std.specs.Vec.Iter.{into_iter_items}
use Rattle.arrow_types.specs.View.{field_notes, field_view}
use Rattle.arrow_meta_schema.specs.Builds.{size, size_all}
use Rattle.arrow_meta_schema.specs.Conditions.{any_in, is_misfit}
use Rattle.arrow_meta_tree.specs.Views.{plain, plain_all}
use Rattle.arrow_meta_schema.proofs.FieldTables.{noted_shapes, shapes_in}
use Rattle.arrow_meta_schema.proofs.fields.+fields.Given as goal

abbrev pub decreases-field : goal.decreases-field
decreases-field c = size_all (plain_all c.parts.items) + 1

abbrev pub decreases-fields : goal.decreases-fields
decreases-fields c = size (plain c.tree)

abbrev pub decreases-fields_of : goal.decreases-fields_of
decreases-fields_of c = size_all (plain_all c.tables.items)

-- The remaining tables are no more than all of them, and a misfit in them is one in all. The fields so far and those
-- still to be built are all of them, and so are their custom metadata.
abbrev pub invariant-fields_of-loop-table : goal.invariant-fields_of-loop-table
invariant-fields_of-loop-table l =
    (goal.iterator-fields_of-loop-table).can_next l.table-iterator ×
    (goal.iterator-fields_of-loop-table).is_finite l.table-iterator ×
    (size_all (plain_all (into_iter_items l.table-iterator)) ≤ size_all (plain_all l.fn.tables.items)) ×
    (any_in is_misfit (plain_all (into_iter_items l.table-iterator)) ≡ true → any_in is_misfit (plain_all l.fn.tables.items) ≡ true) ×
    (map field_view l.fields.items ++ shapes_in (into_iter_items l.table-iterator) ≡ shapes_in l.fn.tables.items) ×
    (map field_notes l.fields.items ++ noted_shapes (into_iter_items l.table-iterator) ≡ noted_shapes l.fn.tables.items)
