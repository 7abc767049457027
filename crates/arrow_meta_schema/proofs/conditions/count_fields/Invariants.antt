use Rattle.std.proofs.Common.{◌≡◌, ◌+◌, ◌≤◌, drop}
use Rattle.arrow_types.specs.Field.{width}
use Rattle.arrow_meta_schema.specs.SchemaMeaning.{fields_from}
use Rattle.arrow_meta_tree.specs.Views.{plain_all}
use Rattle.arrow_meta_schema.proofs.conditions.count_fields.Given as goal

-- the fields counted so far, and those still to be counted, are all
abbrev pub invariant-loop-table : goal.invariant-loop-table
invariant-loop-table l =
    (l.count + width (fields_from (plain_all (drop l.table-index l.tables))) ≡ width (fields_from (plain_all l.tables)))
    × (l.count ≤ l.table-index)
