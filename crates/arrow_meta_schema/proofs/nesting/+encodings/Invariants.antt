use Rattle.std.proofs.Common.{◌≡◌, drop}
use Rattle.arrow_types.specs.Schema.{has_encoding}
use Rattle.arrow_meta_schema.specs.SchemaMeaning.{fields_from}
use Rattle.arrow_meta_tree.specs.Views.{plain_all}
use Rattle.arrow_meta_schema.proofs.nesting.+encodings.Given as goal

abbrev pub invariant-have_encoding-loop-table : goal.invariant-have_encoding-loop-table
invariant-have_encoding-loop-table l = has_encoding (fields_from (plain_all (drop l.table-index l.tables))) ≡ has_encoding (fields_from (plain_all l.tables))
