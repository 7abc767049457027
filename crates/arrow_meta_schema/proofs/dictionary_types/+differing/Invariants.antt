use Rattle.std.proofs.Common.{◌≡◌, ◌≤◌, ◌+◌}
use Rattle.arrow_meta_schema.specs.Builds.{size_all}
use Rattle.arrow_meta_schema.specs.SchemaMeaning.{fields_from}
use Rattle.arrow_types.specs.Dictionaries.{some_differ}
use Rattle.arrow_meta_tree.specs.Views.{plain_all}
use Rattle.arrow_meta_schema.proofs.dictionary_types.+differing.Given as goal

-- the children of a table are smaller than the table, and the table is smaller than the row that holds it
abbrev pub decreases-some_differ : goal.decreases-some_differ
decreases-some_differ c = size_all (plain_all c.tables.now)

abbrev pub decreases-differs : goal.decreases-differs
decreases-differs c = size_all (plain_all c.parts.now) + 1

-- each iteration leaves fewer tables
abbrev pub decreases-some_differ-loop-first : goal.decreases-some_differ-loop-first
decreases-some_differ-loop-first l = size_all (plain_all l.rest)

-- none of the fields so far clashes with one of all
abbrev pub invariant-some_differ-loop-first : goal.invariant-some_differ-loop-first
invariant-some_differ-loop-first l =
    (size_all (plain_all l.rest) ≤ size_all (plain_all l.tables)) ×
    (some_differ (fields_from (plain_all l.all)) (fields_from (plain_all l.rest)) ≡ some_differ (fields_from (plain_all l.all)) (fields_from (plain_all l.tables)))
