use Rattle.std.proofs.Common.{◌≡◌, ◌≤◌, ◌+◌, ◌++◌}
use Rattle.arrow_meta_schema.specs.Builds.{size_all}
use Rattle.arrow_meta_schema.specs.SchemaMeaning.{fields_from}
use Rattle.arrow_meta_schema.specs.Sharing.{encoded_views}
use Rattle.arrow_types.specs.Schema.{dictionary_fields}
use Rattle.arrow_meta_tree.specs.Views.{plain_all}
use Rattle.arrow_meta_schema.proofs.dictionary_types.+encoded.Given as goal

-- the children of a table are smaller than the table, and the table is smaller than the row that holds it
abbrev pub decreases-add_fields : goal.decreases-add_fields
decreases-add_fields c = size_all (plain_all c.tables.now)

abbrev pub decreases-add_field : goal.decreases-add_field
decreases-add_field c = size_all (plain_all c.parts.now) + 1

-- each iteration leaves fewer tables
abbrev pub decreases-add_fields-loop-first : goal.decreases-add_fields-loop-first
decreases-add_fields-loop-first l = size_all (plain_all l.rest)

-- the fields found so far and those of the remaining tables are the fields found before the call and those of all
-- tables
abbrev pub invariant-add_fields-loop-first : goal.invariant-add_fields-loop-first
invariant-add_fields-loop-first l =
    (size_all (plain_all l.rest) ≤ size_all (plain_all l.tables)) ×
    (encoded_views l.found.items ++ dictionary_fields (fields_from (plain_all l.rest))
    ≡ encoded_views l.initial.found.items ++ dictionary_fields (fields_from (plain_all l.tables)))
