use Rattle.std.proofs.Common.{◌≡◌, ◌≤◌, ◌+◌}
use Rattle.arrow_meta_schema.specs.Builds.{size_all}
use Rattle.arrow_meta_schema.specs.SchemaMeaning.{fields_from}
use Rattle.arrow_meta_schema.specs.Sharing.{type_of}
use Rattle.arrow_types.specs.Dictionaries.{some_clash}
use Rattle.arrow_meta_tree.specs.Views.{plain_all}
use Rattle.arrow_meta_schema.proofs.dictionary_types.+clashing.Given as goal

-- the children of a table are smaller than the table, and the table is smaller than the row that holds it
abbrev pub decreases-some_clash : goal.decreases-some_clash
decreases-some_clash c = size_all (plain_all c.tables.now)

abbrev pub decreases-clashes : goal.decreases-clashes
decreases-clashes c = size_all (plain_all c.parts.now) + 1

-- each iteration leaves fewer tables
abbrev pub decreases-some_clash-loop-first : goal.decreases-some_clash-loop-first
decreases-some_clash-loop-first l = size_all (plain_all l.rest)

-- none of the fields so far has this dictionary and another type
abbrev pub invariant-some_clash-loop-first : goal.invariant-some_clash-loop-first
invariant-some_clash-loop-first l =
    (size_all (plain_all l.rest) ≤ size_all (plain_all l.tables)) ×
    (some_clash (record { id = l.id; value_type = type_of (plain_all l.like) }) (fields_from (plain_all l.rest))
    ≡ some_clash (record { id = l.id; value_type = type_of (plain_all l.like) }) (fields_from (plain_all l.tables)))
