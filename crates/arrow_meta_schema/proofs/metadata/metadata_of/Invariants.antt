use Rattle.std.proofs.Common.{◌≡◌, ◌++◌}
use Rattle.std.specs.Vec.Iter.{into_iter_items}
use Rattle.arrow_types.specs.Notes.{pairs_view}
use Rattle.arrow_meta_schema.specs.SchemaMeaning.{metadata_from}
use Rattle.arrow_meta_tree.specs.Views.{plain_all}
use Rattle.arrow_meta_schema.proofs.metadata.metadata_of.Given as goal

-- the pairs so far, and those still to be built, are all
abbrev pub invariant-loop-table : goal.invariant-loop-table
invariant-loop-table l =
    (goal.iterator-loop-table).can_next l.table-iterator ×
    (goal.iterator-loop-table).is_finite l.table-iterator ×
    (pairs_view l.pairs.items ++ metadata_from (plain_all (into_iter_items l.table-iterator)) ≡ metadata_from (plain_all l.fn.tables.items))
