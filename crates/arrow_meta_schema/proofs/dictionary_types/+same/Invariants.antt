use Rattle.std.proofs.Common.{◌≡◌, ◌≤◌, ◌+◌, ◌↔◌}
use Rattle.arrow_meta_schema.specs.Builds.{size_all}
use Rattle.arrow_meta_schema.specs.SchemaMeaning.{fields_from}
use Rattle.arrow_meta_tree.specs.Views.{plain_all}
use Rattle.arrow_meta_schema.proofs.dictionary_types.+same.Given as goal

-- the children of a table are smaller than the table, and the table is smaller than the row that holds it
abbrev pub decreases-same_fields : goal.decreases-same_fields
decreases-same_fields c = size_all (plain_all c.ones.now)

abbrev pub decreases-same_field : goal.decreases-same_field
decreases-same_field c = size_all (plain_all c.one.now) + 1

-- each iteration leaves fewer tables
abbrev pub decreases-same_fields-loop-first : goal.decreases-same_fields-loop-first
decreases-same_fields-loop-first l = size_all (plain_all l.one)

-- the fields are equal exactly if the remaining ones are
abbrev pub invariant-same_fields-loop-first : goal.invariant-same_fields-loop-first
invariant-same_fields-loop-first l =
    (size_all (plain_all l.one) ≤ size_all (plain_all l.ones)) ×
    ((fields_from (plain_all l.one) ≡ fields_from (plain_all l.other)) ↔ (fields_from (plain_all l.ones) ≡ fields_from (plain_all l.others)))
