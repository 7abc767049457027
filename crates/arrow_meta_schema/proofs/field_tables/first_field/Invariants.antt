use Rattle.std.proofs.Common.{◌≡◌, drop}
use Rattle.arrow_meta_schema.specs.SchemaMeaning.{fields_from}
use Rattle.arrow_meta_tree.specs.Views.{plain_all}
use Rattle.arrow_meta_schema.proofs.field_tables.first_field.Given as goal

-- none of the tables so far is a Field table
abbrev pub invariant-loop-i : goal.invariant-loop-i
invariant-loop-i l = fields_from (plain_all (drop l.i l.tables)) ≡ fields_from (plain_all l.tables)
