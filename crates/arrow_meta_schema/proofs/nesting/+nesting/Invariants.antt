use Rattle.std.proofs.Common.{◌≡◌, drop}
use Rattle.arrow_types.specs.Schema.{is_nested}
use Rattle.arrow_meta_schema.specs.SchemaMeaning.{fields_from}
use Rattle.arrow_meta_tree.specs.Views.{plain_all}
use Rattle.arrow_meta_schema.proofs.nesting.+nesting.Given as goal

abbrev pub invariant-are_nested-loop-table : goal.invariant-are_nested-loop-table
invariant-are_nested-loop-table l = is_nested (fields_from (plain_all (drop l.table-index l.tables))) ≡ is_nested (fields_from (plain_all l.tables))
