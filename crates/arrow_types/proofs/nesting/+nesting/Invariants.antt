use Rattle.arrow_types.specs.Field.{count}
use Rattle.std.proofs.Common.{◌+◌, ◌*◌, ◌≡◌, drop}
use Rattle.arrow_types.specs.Schema.{is_nested}
use Rattle.arrow_types.specs.View.{field_view, fields_view}
use Rattle.arrow_types.proofs.nesting.+nesting.Given as goal

-- the fields below a field are fewer than with it, and these fewer than all fields of its list
abbrev pub decreases-are_nested : goal.decreases-are_nested
decreases-are_nested l = 2 * count (fields_view l.fields.now)

abbrev pub decreases-has_nested : goal.decreases-has_nested
decreases-has_nested l = 2 * count (field_view l.field.now).children + 1

-- none of the fields so far has a dictionary below a dictionary
abbrev pub invariant-are_nested-loop-field : goal.invariant-are_nested-loop-field
invariant-are_nested-loop-field l =
    is_nested (fields_view (drop l.field-index l.fields)) ≡ is_nested (fields_view l.fields)
