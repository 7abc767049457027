use Rattle.arrow_types.specs.Field.{count}
use Rattle.std.proofs.Common.{◌+◌, ◌*◌, ◌≡◌, drop}
use Rattle.arrow_types.specs.Dictionaries.{some_differ}
use Rattle.arrow_types.specs.View.{field_view, fields_view}
use Rattle.arrow_types.proofs.differing.+differing.Given as goal

-- the fields below a field are fewer than with it, and these fewer than all fields of its list
abbrev pub decreases-some_differ : goal.decreases-some_differ
decreases-some_differ l = 2 * count (fields_view l.fields.now)

abbrev pub decreases-differs : goal.decreases-differs
decreases-differs l = 2 * count (field_view l.field.now).children + 1

-- none of the fields so far clashes with one of all fields
abbrev pub invariant-some_differ-loop-field : goal.invariant-some_differ-loop-field
invariant-some_differ-loop-field l =
    some_differ (fields_view l.all) (fields_view (drop l.field-index l.fields)) ≡ some_differ (fields_view l.all) (fields_view l.fields)
